-- What the call for a file returns and writes. Assumes nothing.
use Rattle.std.specs.Prelude.{ℕ, ◌/◌, ◌%◌, cond, List, eqb, length, Ok, Err}
use Rattle.uf2_block.specs.Write.{put_at}
use Rattle.file_check.specs.declared.FileFault.TheVariants.{BadBuffers, BadSettings, Ragged, Empty, Refused, OtherFamily, OtherTotal, OtherKind, SameNumber, Overlap, Missing, Guarded}
use Rattle.file_check.specs.Check.{Checked, checked_number}

-- the piece with which something is wrong, and of a missing block its number; 0 where there is none
abbrev pub piece_told : Checked → ℕ
piece_told (Err BadBuffers) = 0
piece_told (Err BadSettings) = 0
piece_told (Err Ragged) = 0
piece_told (Err Empty) = 0
piece_told (Err (Refused i x)) = i
piece_told (Err (OtherFamily i)) = i
piece_told (Err (OtherTotal i)) = i
piece_told (Err (OtherKind i)) = i
piece_told (Err (SameNumber i j)) = i
piece_told (Err (Overlap i j)) = i
piece_told (Err (Missing k)) = k
piece_told (Err (Guarded i)) = i
piece_told (Ok u) = 0

-- the earlier piece that it collides with
abbrev pub other_told : Checked → ℕ
other_told (Err BadBuffers) = 0
other_told (Err BadSettings) = 0
other_told (Err Ragged) = 0
other_told (Err Empty) = 0
other_told (Err (Refused i x)) = 0
other_told (Err (OtherFamily i)) = 0
other_told (Err (OtherTotal i)) = 0
other_told (Err (OtherKind i)) = 0
other_told (Err (SameNumber i j)) = j
other_told (Err (Overlap i j)) = j
other_told (Err (Missing k)) = 0
other_told (Err (Guarded i)) = 0
other_told (Ok u) = 0

-- both as 64 bits, the lowest byte first
unfoldable pub numbers_over : List ℕ → ℕ → ℕ → List ℕ
numbers_over l i j =
    put_at (put_at (put_at (put_at l 0 (i % 4294967296)) 4 (i / 4294967296)) 8 (j % 4294967296)) 12 (j / 4294967296)

-- what is returned, and what the bytes hold then
pub record Call : Type 0 where
  pub result : ℕ
  pub told : List ℕ

abbrev pub call_return : ℕ → List ℕ → Call
call_return n l = record { result = n; told = l }

-- 16 bytes are lent for what is told; of another length they stay, and the answer is that of wrong buffers
unfoldable pub check_call : Checked → List ℕ → Call
check_call x l = cond (eqb (length l) 16) (call_return (checked_number x) (numbers_over l (piece_told x) (other_told x))) (call_return 1 l)
