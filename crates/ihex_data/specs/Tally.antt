-- What the code keeps of the pieces written so far, and the lines of a piece by it. The lines of all pieces of a file are `data_lines`
-- (proofs/Tallied.antt). Assumes nothing.
use Rattle.std.specs.Prelude.{ℕ, ◌+◌, ◌*◌, ◌%◌, cond, List, [], ◌∷◌, ◌++◌, length, Some}
use Rattle.laws.specs.Stores.{Store}
use Rattle.ihex_record.specs.Write.{record_line}
use Rattle.ihex_data.specs.declared.cuts.Tally.{Tally}
use Rattle.ihex_data.specs.Lines.{upper_of, upper_line}
-- what is kept, before the first piece, and where an 04 stands
pub use Rattle.ihex_data.specs.Cuts.{tally, uppers, fresh_tally, first_of, changes}

-- one more piece, of n bytes with the upper half u
unfoldable pub tally_piece : Tally → ℕ → ℕ → Tally
tally_piece t u n =
    tally (Some (uppers (first_of t.uppers u) u)) (t.len + (cond (changes t u) 16 0 + (12 + 2 * n)))

-- pieces
unfoldable pub tally_all : Tally → List Store → Tally
tally_all t [] = t
tally_all t (s ∷ ss) = tally_all (tally_piece t (upper_of s) (length s.bytes)) ss

-- the lines of a piece, by the two halves of its address
unfoldable pub piece_lines : ℕ → Tally → ℕ → ℕ → List ℕ → List (List ℕ)
piece_lines kind t upper lower d =
    cond (changes t upper) (upper_line upper ∷ record_line kind lower d ∷ []) (record_line kind lower d ∷ [])

-- of pieces
unfoldable pub pieces_lines : ℕ → Tally → List Store → List (List ℕ)
pieces_lines kind t [] = []
pieces_lines kind t (s ∷ ss) =
    piece_lines kind t (upper_of s) (s.address % 65536) s.bytes ++ pieces_lines kind (tally_piece t (upper_of s) (length s.bytes)) ss
