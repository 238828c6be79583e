-- An entry's fields from the six larger ones of its 22 bytes, as the code has them. Assumes nothing.
use Rattle.std.specs.Prelude.{ℕ, List, [], ◌∷◌, ◌++◌}
use Rattle.laws.specs.Packing.{unpacked}
use Rattle.store_entry.specs.declared.chunk_bits.Chunks.{Chunks}

-- the widths of the first 42 bits
abbrev pub lead_widths : List ℕ
lead_widths = 13 ∷ 14 ∷ 2 ∷ 4 ∷ 1 ∷ 1 ∷ 1 ∷ 1 ∷ 1 ∷ 1 ∷ 3 ∷ []

-- an entry's fields
unfoldable pub chunk_fields : Chunks → List ℕ
chunk_fields c = unpacked lead_widths c.h ++ (c.u ∷ c.v ∷ c.w ∷ c.x ∷ unpacked (1 ∷ 5 ∷ []) c.tail)
