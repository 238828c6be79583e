-- Little-endian 32-bit fields that are written; `field_at` says what is read. Assumes nothing.
use Rattle.std.specs.Prelude.{ℕ, ◌+◌, cond, List, leb, length}
use Rattle.laws.specs.Bytes.{low_first}
use Rattle.laws.specs.Over.{over}

-- the four bytes of x, the lowest first (proofs/WriteLaws.antt: they are read as x, where it is below 2 ^ 32)
abbrev pub le32 : ℕ → List ℕ
le32 x = low_first 4 x

-- x written at an offset; where it would run past the end, nothing is written
unfoldable pub put_at : List ℕ → ℕ → ℕ → List ℕ
put_at b at x = cond (leb (at + 4) (length b)) (over b at (le32 x)) b
