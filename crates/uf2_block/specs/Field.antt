-- Little-endian 32-bit fields that are read (01, "A UF2 block"). Assumes nothing.
use Rattle.std.specs.Prelude.{ℕ, ◌+◌, cond, List, length, leb}
use Rattle.laws.specs.Bytes.{number_in}

-- "Little-endian 32-bit fields": the field at an offset, or 0 where it runs past the end
unfoldable pub field_at : List ℕ → ℕ → ℕ
field_at a at = cond (leb (at + 4) (length a)) (number_in 4 a at) 0
