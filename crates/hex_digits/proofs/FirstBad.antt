-- The first character that is no digit, beside row 22's test. Assumes nothing.
use Prim.Native.Nat.{ℕ, zero, suc, ◌≤◌, ◌<◌}
use mathlib.Core.Path.{◌≡◌, refl}
use mathlib.Core.Bool.{true, false}
use mathlib.Core.List.{List, [], ◌∷◌}
use native.Mathlib.Omega.{arith}
use lib.ListN.{length, get_or}
use Rattle.laws.proofs.Tests.{split}
use Rattle.hex_digits.proofs.decoding.FirstLaws.{first_none}
use Rattle.hex_digits.specs.Digits.{digit_of, is_digit, all_digits, first_bad, all_by, first_by}

pub bad_most : (l : List ℕ) → first_bad l ≤ length l
unfolding first_by
bad_most [] = omega arith
bad_most (c ∷ l) =
    let h : first_bad l ≤ length l = bad_most l in
    split (is_digit c) (λ y. rw y (omega arith)) (λ z. rw z (omega arith))

-- below their number there is one
pub bad_some : (l : List ℕ) → first_bad l < length l → all_digits l ≡ false
bad_some l h = split (all_digits l) (λ y. absurd (omega (arith, first_none digit_of l y))) (λ z. z)

pub bad_all : (l : List ℕ) → length l ≤ first_bad l → all_digits l ≡ true
unfolding all_by first_by
bad_all [] h = refl
bad_all (c ∷ l) h =
    split (is_digit c)
    (λ y.
    let k : suc (length l) ≤ suc (first_bad l) = rw y at h in
    rw y (bad_all l (omega arith)))
    (λ z. let k : suc (length l) ≤ 0 = rw z at h in absurd (omega arith))

-- the character there is none, every one before it is one
pub bad_is : (l : List ℕ) → first_bad l < length l → is_digit (get_or l (first_bad l) 0) ≡ false
unfolding first_by
bad_is [] h = absurd (omega arith)
bad_is (c ∷ l) h =
    split (is_digit c)
    (λ y.
    let k : suc (first_bad l) < suc (length l) = rw y at h in
    rw y (bad_is l (omega arith)))
    (λ z. rw z z)

pub bad_first : (l : List ℕ) (i : ℕ) → i < first_bad l → is_digit (get_or l i 0) ≡ true
unfolding first_by
bad_first [] i h = absurd (omega arith)
bad_first (c ∷ l) zero h =
    split (is_digit c) (λ y. y) (λ z. let k : 0 < 0 = rw z at h in absurd (omega arith))
bad_first (c ∷ l) (suc i) h =
    split (is_digit c)
    (λ y. let k : suc i < suc (first_bad l) = rw y at h in bad_first l i (omega arith))
    (λ z. let k : suc i < 0 = rw z at h in absurd (omega arith))
