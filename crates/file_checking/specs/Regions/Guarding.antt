-- A piece that names a region that counts, by the place of its family. Assumes nothing.
use Rattle.std.specs.Prelude.{ℕ, Bool, not, ◌&&◌, List, Option}
use Rattle.laws.specs.Sets.{Set}
use Rattle.uf2_block.specs.Block.{has_flag}
use Rattle.placement.specs.declared.Place.{Place}
use Rattle.file_check.specs.Check.{piece_at, guards_in}

-- an arrival is data, and names a region that counts in a place (02, L9)
unfoldable pub guards_alone : Option Place → List ℕ → Bool
guards_alone p a = not (has_flag a 0x1) && has_flag a 0x4000 && guards_in p a

-- piece i does
abbrev pub guards_at : Option Place → List ℕ → Set
guards_at p f i = guards_alone p (piece_at f i)
