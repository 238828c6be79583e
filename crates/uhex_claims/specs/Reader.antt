-- Row 18 in numbers: "own board neither of these, offset over the limit, or a remembered failure that isn't 20 to 30 or 36"; "one handed in with 22 and a position
-- outside 1 to 520 is 18" (02, L12). Proved in proofs/Reader.antt. Assumes nothing.
use Rattle.std.specs.Prelude.{ℕ, ◌<◌, ◌≤◌, ◌≡◌, ◌≢◌, ◌↔◌, [], ◌∷◌, map, length}
use Rattle.uhex_grammar.specs.Answers.{number_of}
use Rattle.uhex_grammar.specs.declared.Answer.{Answer}
use Rattle.uhex_grammar.specs.declared.Answer.TheVariants as answer
use Rattle.uhex_grammar.specs.declared.Failure.{Failure}
use Rattle.uhex_grammar.specs.declared.ReaderState.TheVariants.{Failed}
use Rattle.uhex_effects.specs.declared.Reader.{Reader}
use Rattle.uhex_claims.specs.Facts.{EveryLine}

-- the failures that a reader may remember
pub data Remembered : Answer → Type 0 where
  no_colon_case : Remembered answer.NoColon
  bad_shape_case : Remembered answer.BadShape
  bad_digit : {p : ℕ} → 1 ≤ p → p ≤ 520 → Remembered (answer.BadDigit p)
  too_long : Remembered answer.TooLong
  bad_length_case : Remembered answer.BadLength
  bad_sum_case : Remembered answer.BadSum
  out_of_place : Remembered answer.OutOfPlace
  unaligned : Remembered answer.Unaligned
  repeated : Remembered answer.Repeated
  crosses : Remembered answer.Crosses
  missing_board : Remembered answer.MissingBoard
  file_too_long : Remembered answer.FileTooLong

pub data Bad (r : Reader) : Type 0 where
  board : r.own ≢ 0x9900 → r.own ≢ 0x9903 → Bad r
  offset : 4194304 < r.offset → Bad r
  failure : (f : Failure) → r.state ≡ Failed f → (Remembered f.answer → ⊥) → Bad r

-- 18 with an image that 19 lets through, and no other reader
unfoldable pub BadReaderExactly : Type 0
BadReaderExactly = EveryLine (λ r l img o. 1 ≤ length img → length img ≤ 1048576 → (o.answer ≡ answer.BadReader) ↔ Bad r)

-- the numbers of the answers are 01's
unfoldable pub NumbersAre01s : Type 0
NumbersAre01s =
    (p : ℕ)
    → map number_of
    (answer.BadReader ∷ answer.BadImage ∷ answer.NoColon ∷ answer.BadShape ∷ answer.BadDigit p ∷ answer.TooLong ∷ answer.BadLength ∷ answer.BadSum
    ∷ answer.OutOfPlace ∷ answer.Unaligned ∷ answer.Repeated ∷ answer.Crosses ∷ answer.MissingBoard ∷ answer.AfterEnd ∷ answer.Outside ∷ answer.Stored
    ∷ answer.Passed ∷ answer.Ended ∷ answer.FileTooLong ∷ [])
    ≡ 18 ∷ 19 ∷ 20 ∷ 21 ∷ 22 ∷ 23 ∷ 24 ∷ 25 ∷ 26 ∷ 27 ∷ 28 ∷ 29 ∷ 30 ∷ 31 ∷ 32 ∷ 33 ∷ 34 ∷ 35 ∷ 36 ∷ []
