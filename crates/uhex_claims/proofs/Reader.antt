-- Row 18 in numbers. Assumes nothing.
use mathlib.Core.Path.{◌≡◌, refl, ap, ◌∙◌}
use mathlib.Core.Bool.{true, false, ◌&&◌, ◌||◌, or-true}
use native.Mathlib.Omega.{arith}
use lib.Dec.{ltb, leb}
use lib.ListN.{length}
use borrow.Author.Tests.{eqb-false, ne_eqb, lt-ltb, le-ltb, ltb-true, le-leb, leb-true, not-true, not-false}
use Rattle.laws.proofs.Tests.{split, clash, is_false, and_left, and_right, or_left, or_right}
use Rattle.uhex_grammar.specs.Answers.{number_of, is_kept}
use Rattle.uhex_grammar.specs.Boards.{is_v1, is_v2}
use Rattle.uhex_grammar.specs.declared.Answer.{Answer}
use Rattle.uhex_grammar.specs.declared.Answer.TheVariants as answer
use Rattle.uhex_grammar.specs.declared.ReaderState.{ReaderState}
use Rattle.uhex_grammar.specs.declared.ReaderState.TheVariants.{Between, Opened, Inside, Padded, Ended, Failed}
use Rattle.uhex_effects.specs.declared.Reader.{Reader}
use Rattle.uhex_reader.specs.Reader.{bad_failure, bad_reader}
use Rattle.uhex_reader.specs.Line.{LineOutcome}
use Rattle.uhex_claims.specs.Facts.{Ready, BadExactly}
use Rattle.uhex_claims.proofs.Facts.{bad_exactly}
use Rattle.uhex_claims.specs.Exact.{ImageBeforeReader}
use Rattle.uhex_claims.proofs.Exact.{image_before_reader}
use Rattle.uhex_claims.specs.Reader.{Remembered, no_colon_case, bad_shape_case, bad_digit, too_long, bad_length_case, bad_sum_case, out_of_place, unaligned, repeated, crosses, missing_board, file_too_long, Bad, board, offset, failure, BadReaderExactly, NumbersAre01s}

-- ---- failures

kept_said : (x : Answer) → Remembered x → is_kept x ≡ true
unfolding is_kept
kept_said x no_colon_case = refl
kept_said x bad_shape_case = refl
kept_said x (bad_digit {p} l m) = rw (le-leb 1 p l, le-leb p 520 m)
kept_said x too_long = refl
kept_said x bad_length_case = refl
kept_said x bad_sum_case = refl
kept_said x out_of_place = refl
kept_said x unaligned = refl
kept_said x repeated = refl
kept_said x crosses = refl
kept_said x missing_board = refl
kept_said x file_too_long = refl

said_kept : (x : Answer) → is_kept x ≡ true → Remembered x
unfolding is_kept
said_kept answer.BadReader h = clash false h refl
said_kept answer.BadImage h = clash false h refl
said_kept answer.NoColon h = no_colon_case
said_kept answer.BadShape h = bad_shape_case
said_kept (answer.BadDigit p) h =
    let g : leb 1 p && leb p 520 ≡ true = not-false _ (not-true _ h) in
    bad_digit (leb-true 1 p (and_left (leb 1 p) (leb p 520) g)) (leb-true p 520 (and_right (leb 1 p) (leb p 520) g))
said_kept answer.TooLong h = too_long
said_kept answer.BadLength h = bad_length_case
said_kept answer.BadSum h = bad_sum_case
said_kept answer.OutOfPlace h = out_of_place
said_kept answer.Unaligned h = unaligned
said_kept answer.Repeated h = repeated
said_kept answer.Crosses h = crosses
said_kept answer.MissingBoard h = missing_board
said_kept answer.AfterEnd h = clash false h refl
said_kept answer.Outside h = clash false h refl
said_kept answer.Stored h = clash false h refl
said_kept answer.Passed h = clash false h refl
said_kept answer.Ended h = clash false h refl
said_kept answer.FileTooLong h = file_too_long

-- ---- the reader

module _ (r : Reader) where
  bad_said : Bad r → bad_reader r ≡ true
  unfolding bad_reader bad_failure
  bad_said (board a b) = rw (ne_eqb r.own 0x9900 a, ne_eqb r.own 0x9903 b)
  bad_said (offset h) = simp (lt-ltb 4194304 r.offset h, or-true)
  bad_said (failure f e h) =
      let z : is_kept f.answer ≡ false = is_false _ (λ y. h (said_kept f.answer y)) in
      let b : bad_failure r.state ≡ true = ap bad_failure e ∙ rw z in
      simp (b, or-true)

  failed : (x : ReaderState) → r.state ≡ x → bad_failure x ≡ true → Bad r
  unfolding bad_failure
  failed Between e h = clash false h refl
  failed Opened e h = clash false h refl
  failed (Inside b) e h = clash false h refl
  failed (Padded b) e h = clash false h refl
  failed Ended e h = clash false h refl
  failed (Failed f) e h = failure f e (λ k. clash (is_kept f.answer) (kept_said f.answer k) (not-true _ h))

  said_bad : bad_reader r ≡ true → Bad r
  unfolding bad_reader
  said_bad h =
      split (is_v1 r.own || is_v2 r.own)
      (λ y.
      split (ltb 4194304 r.offset) (λ o. offset (ltb-true 4194304 r.offset o))
      (λ z. failed r.state refl (rw (y, z) at h)))
      (λ z. board (eqb-false r.own 0x9900 (or_left (is_v1 r.own) (is_v2 r.own) z)) (eqb-false r.own 0x9903 (or_right (is_v1 r.own) (is_v2 r.own) z)))

pub bad_reader_exactly : BadReaderExactly
unfolding BadReaderExactly BadExactly ImageBeforeReader
bad_reader_exactly r l img some most =
    let b = (image_before_reader r l img).1 some most in (
      λ e.
          split (bad_reader r) (λ y. said_bad r y)
          (λ z.
          let ready : Ready r img = record { image = rw (le-ltb (length img) 1 some, le-ltb 1048576 (length img) most); reader = z } in
          let k = (bad_exactly r l img).1 ready in
          let n = ap number_of e in
          absurd (omega (arith, k, n))),
      λ h. ap (λ (o : LineOutcome). o.answer) (b (bad_said r h)),
    )

pub numbers_are_01s : NumbersAre01s
unfolding NumbersAre01s
numbers_are_01s p = refl
