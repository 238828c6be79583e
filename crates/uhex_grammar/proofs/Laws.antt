-- The numbers of a line's refusals are the answers', and the failures that a reader may remember. Assumes nothing.
use Prim.Native.Nat.{ℕ, ◌≤◌, ◌<◌}
use mathlib.Core.Path.{◌≡◌, refl}
use mathlib.Core.Bool.{true, false, not}
use mathlib.Core.Logic.{◌≢◌, ◌⊎◌, ⊎_elim}
use lib.Dec.{leb}
use borrow.Author.Tests.{le-leb, lt-leb}
use Rattle.laws.proofs.Tests.{split, and_left}
use Rattle.std.specs.Prelude.{Ok, Err}
use Rattle.ihex_record.specs.Record.{ParseResult, parsed_number}
use Rattle.ihex_record.specs.declared.LineError.TheVariants as error
use Rattle.uhex_grammar.specs.Answers.{number_of, is_failure, bad_position, is_kept, refusal_of}
use Rattle.uhex_grammar.specs.declared.Answer.{Answer}
use Rattle.uhex_grammar.specs.declared.Answer.TheVariants.{BadDigit}

pub refusal_number : (p : ParseResult) → parsed_number p ≢ 0 → number_of (refusal_of p) ≡ parsed_number p
refusal_number (Err error.NoColon) n = refl
refusal_number (Err error.BadShape) n = refl
refusal_number (Err (error.BadDigit p)) n = refl
refusal_number (Err error.TooLong) n = refl
refusal_number (Err error.BadLength) n = refl
refusal_number (Err error.BadSum) n = refl
refusal_number (Ok rec) n = absurd (n refl)

-- ---- a failure that may be remembered

pub kept_failure : (a : Answer) → is_kept a ≡ true → is_failure a ≡ true
unfolding is_kept
kept_failure a e = and_left (is_failure a) (not (bad_position a)) e

-- a position from 1 to 520
pub kept_digit : (p : ℕ) → 1 ≤ p → p ≤ 520 → is_kept (BadDigit p) ≡ true
unfolding is_kept
kept_digit p h k = rw (le-leb 1 p h, le-leb p 520 k)

pub kept_not : (p : ℕ) → (p < 1) ⊎ (520 < p) → is_kept (BadDigit p) ≡ false
unfolding is_kept
kept_not p =
    ⊎_elim
    (λ h. rw (lt-leb 1 p h))
    (λ h. split (leb 1 p) (λ y. rw (y, lt-leb p 520 h)) (λ z. rw z))
