-- The numbers of the answers: each is read as its answer. Assumes nothing.
use Prim.Native.Nat.{ℕ, zero, suc, ◌+◌, ◌-◌, ◌<◌, ◌≤◌}
use mathlib.Core.Path.{◌≡◌, refl, ap, ◌∙◌}
use mathlib.Core.Bool.{Bool, true, false, not, ◌&&◌, ◌||◌, and-false}
use mathlib.Core.List.{List, [], ◌∷◌}
use native.Mathlib.Nat.{le_of_suc-le-suc, not-suc-le-zero}
use native.Mathlib.Omega.{arith}
use lib.Dec.{ltb, leb, eqb}
use lib.ListN.{length, get_or, get_or-eq_default}
use borrow.Author.Tests.{lt-leb, ltb-true, ltb-false, eqb-true, ne_eqb}
use Rattle.laws.proofs.Tests.{split, or_left, or_right, and_left, and_right}
use Rattle.uhex_grammar.specs.Answers.{number_of, position_of, is_failure, bad_position, is_kept}
use Rattle.uhex_grammar.specs.declared.Answer.{Answer}
use Rattle.uhex_grammar.specs.declared.Answer.TheVariants.{BadReader, BadImage, NoColon, BadShape, BadDigit, TooLong, BadLength, BadSum, OutOfPlace, Unaligned, Repeated, Crosses, MissingBoard, AfterEnd, Outside, Stored, Passed, Ended, FileTooLong}
use Rattle.uhex_layout.specs.Readers.{all_answers, answer_from}

-- ---- a number that is no answer

abbrev pub none : ℕ → Bool
none n = ltb n 18 || ltb 36 n

pub answer_low : (n : ℕ) → none n ≡ false → 18 ≤ n
answer_low n e = ltb-false n 18 (or_left (ltb n 18) (ltb 36 n) e)

pub answer_high : (n : ℕ) → none n ≡ false → n - 18 < 19
answer_high n e =
    let h : n ≤ 36 = ltb-false 36 n (or_right (ltb n 18) (ltb 36 n) e) in
    omega arith

low_none : (n p : ℕ) → n < 18 → answer_from n p ≡ BadReader
unfolding answer_from all_answers
low_none n p h = let z : n - 18 ≡ 0 = omega arith in rw z

high_none : (n p : ℕ) → 36 < n → answer_from n p ≡ BadReader
unfolding answer_from all_answers
high_none n p h =
    let past : length (all_answers p) ≤ n - 18 = omega arith in
    get_or-eq_default (all_answers p) BadReader past

pub answer_none : (n p : ℕ) → none n ≡ true → answer_from n p ≡ BadReader
answer_none n p e =
    split (ltb n 18) (λ t. low_none n p (ltb-true n 18 t)) (λ f. high_none n p (ltb-true 36 n (rw f at e)))

-- ---- a number from 18 to 36

-- the answers of a list have the numbers from n on
numbered : ℕ → List Answer → Bool
numbered n [] = true
numbered n (a ∷ l) = eqb (number_of a) n && numbered (n + 1) l

numbered_at : (l : List Answer) (n k : ℕ) → numbered n l ≡ true → k < length l → number_of (get_or l k BadReader) ≡ n + k
unfolding numbered
numbered_at [] n k e h = absurd (not-suc-le-zero h)
numbered_at (a ∷ l) n zero e h =
    let x = eqb-true (number_of a) n (and_left _ (numbered (n + 1) l) e) in
    omega arith
numbered_at (a ∷ l) n (suc k) e h =
    numbered_at l (n + 1) k (and_right (eqb (number_of a) n) _ e) (le_of_suc-le-suc h) ∙ omega arith

-- a number that is read and written again: the failures from 20 to 30 and 36 with it
pub number_back : (n p : ℕ) → 18 ≤ n → n ≤ 36 → number_of (answer_from n p) ≡ n
unfolding answer_from all_answers numbered
number_back n p h l = numbered_at (all_answers p) 18 (n - 18) refl (omega arith) ∙ omega arith

-- an answer that is written and read again
pub answer_back : (a : Answer) → answer_from (number_of a) (position_of a) ≡ a
unfolding answer_from all_answers
answer_back BadReader = refl
answer_back BadImage = refl
answer_back NoColon = refl
answer_back BadShape = refl
answer_back (BadDigit p) = refl
answer_back TooLong = refl
answer_back BadLength = refl
answer_back BadSum = refl
answer_back OutOfPlace = refl
answer_back Unaligned = refl
answer_back Repeated = refl
answer_back Crosses = refl
answer_back MissingBoard = refl
answer_back AfterEnd = refl
answer_back Outside = refl
answer_back Stored = refl
answer_back Passed = refl
answer_back Ended = refl
answer_back FileTooLong = refl

-- ---- a failure that a reader may remember

-- "20 to 30 or 36"
abbrev pub failure_number : ℕ → Bool
failure_number n = leb 20 n && leb n 30 || eqb n 36

pub failure_from : (n p : ℕ) → is_failure (answer_from n p) ≡ failure_number n
failure_from n p =
    split (none n)
    (λ t.
    rw (answer_none n p t)
    (split (ltb n 18)
    (λ b. let h = ltb-true n 18 b in rw (lt-leb 20 n (omega arith), ne_eqb n 36 (λ e. omega arith)))
    (λ b.
    let h = ltb-true 36 n (rw b at t) in
    rw (lt-leb n 30 (omega arith), ne_eqb n 36 (λ e. omega arith)) (rw (and-false (leb 20 n))))))
    (λ f.
    let h = answer_high n f in
    ap failure_number (number_back n p (answer_low n f) (omega arith)))

-- with a position from 1 to 520 by 22
abbrev pub kept_number : ℕ → ℕ → Bool
kept_number n p = failure_number n && not (eqb n 22 && not (leb 1 p && leb p 520))

not_22 : (n p : ℕ) → eqb n 22 ≡ false → eqb (number_of (answer_from n p)) 22 ≡ false
not_22 n p z =
    split (none n)
    (λ t. rw (answer_none n p t))
    (λ f. let h = answer_high n f in rw (number_back n p (answer_low n f) (omega arith)) z)

at_22 : (p : ℕ) → is_failure (answer_from 22 p) && not (bad_position (answer_from 22 p)) ≡ kept_number 22 p
unfolding answer_from all_answers
at_22 p = refl

pub kept_from : (n p : ℕ) → is_kept (answer_from n p) ≡ kept_number n p
unfolding is_kept
kept_from n p =
    split (eqb n 22)
    (λ y. let e : n ≡ 22 = eqb-true n 22 y in rw e (at_22 p))
    (λ z. rw (failure_from n p, not_22 n p z, z))

-- ---- a position is the one that was handed in, or none

AllMost : ℕ → List Answer → Type 0
AllMost p [] = 0 ≤ p
AllMost p (a ∷ l) = (position_of a ≤ p) × AllMost p l

most_at : (p : ℕ) (l : List Answer) (k : ℕ) → AllMost p l → position_of (get_or l k BadReader) ≤ p
unfolding AllMost
most_at p [] k h = h
most_at p (a ∷ l) zero h = h.0
most_at p (a ∷ l) (suc k) h = most_at p l k h.1

pub position_most : (n p : ℕ) → position_of (answer_from n p) ≤ p
unfolding answer_from all_answers AllMost
position_most n p = most_at p (all_answers p) (n - 18) (omega arith)
