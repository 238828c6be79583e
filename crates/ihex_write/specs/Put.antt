-- Lines written into a room (02, L11). What a record's line is stands in record's specs/Write. Assumes nothing.
use Rattle.std.specs.Prelude.{ℕ, ◌+◌, cond, List, [], ◌∷◌, length, nat_le}
use Rattle.laws.specs.Over.{over}
use Rattle.ihex_record.specs.Write.{record_line}

-- a line from an index on; where it does not fit, nothing is written
unfoldable pub put_line : List ℕ → ℕ → List ℕ → List ℕ
put_line out at l = cond (nat_le (at + length l) (length out)) (over out at l) out

-- a record's line; a record has at most 32 bytes of data, and of one with more nothing is written
unfoldable pub put_record : List ℕ → ℕ → ℕ → ℕ → List ℕ → List ℕ
put_record out at kind address d = cond (nat_le (length d) 32) (put_line out at (record_line kind address d)) out

-- lines one after the other
unfoldable pub put_lines : List ℕ → ℕ → List (List ℕ) → List ℕ
put_lines out at [] = out
put_lines out at (l ∷ ls) = put_lines (put_line out at l) (at + length l) ls
