-- Two pieces beside each other, by their bytes. Assumes nothing.
use Rattle.std.specs.Prelude.{ℕ, Bool, not, ◌&&◌, List}
use Rattle.uf2_block.specs.Block.{field_at, has_flag}
use Rattle.file_check.specs.Check.{near}

-- both are data, and b has a byte address of a
abbrev pub overlap_of : List ℕ → List ℕ → Bool
overlap_of a b = not (has_flag a 0x1) && not (has_flag b 0x1) && near (field_at b 12) (field_at a 12)
