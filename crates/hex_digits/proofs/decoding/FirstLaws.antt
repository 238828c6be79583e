-- The first character that is no digit: beside the test of all, and from an index on, as the code looks. Assumes nothing.
use Prim.Native.Nat.{ℕ, suc, ◌+◌, ◌-◌, ◌≤◌, ◌<◌}
use mathlib.Core.Path.{◌≡◌, refl, ap}
use mathlib.Core.Bool.{true, false, ◌&&◌}
use mathlib.Core.List.{List, [], ◌∷◌}
use native.Mathlib.Numerals.{add-one}
use native.Mathlib.Omega.{arith}
use lib.ListN.{length, get_or, take, drop, length-drop, drop_of_length-le}
use lib.Seq.{take_all, drop-cons}
use borrow.Author.Tests.{lt-ltb, le-ltb}
use Rattle.laws.proofs.Tests.{split, clash, and_right}
use Rattle.hex_digits.specs.Values.{value_in, is_digit_by, all_by}
use Rattle.hex_digits.proofs.pairs.Values.{value_at}
use Rattle.hex_digits.specs.First.{first_by}

-- a part that goes to the end, as the code lends it
pub rest : (k : ℕ) (l : List ℕ) → take (length l - k) (drop k l) ≡ drop k l
rest k l = take_all (length l - k) (drop k l) (omega (arith, length-drop k l))

module _ (v : ℕ → ℕ) where
  pub first_none : (l : List ℕ) → all_by v l ≡ true → length l ≡ first_by v l
  unfolding all_by first_by
  first_none [] e = refl
  first_none (c ∷ l) e =
      split (is_digit_by v c)
      (λ y. rw y (ap suc (first_none l (and_right (is_digit_by v c) (all_by v l) e))))
      (λ z. clash (is_digit_by v c && all_by v l) e (rw z))

  pub first_end : (l : List ℕ) (i : ℕ) → length l ≤ i → first_by v (drop i l) ≡ 0
  unfolding first_by
  first_end l i h = rw (drop_of_length-le l h)

-- by a table
module _ (t l : List ℕ) (i : ℕ) (byte : get_or l i 0 < 256) where
  pub first_here : i < length l → 16 ≤ get_or t (get_or l i 0) 0 → first_by (value_in t) (drop i l) ≡ 0
  unfolding first_by
  first_here h n =
      let z : is_digit_by (value_in t) (get_or l i 0) ≡ false = le-ltb _ 16 (rw (value_at t _ byte) at n) in
      rw (drop-cons l i 0 h, z)

  pub first_next : i < length l → get_or t (get_or l i 0) 0 < 16 → first_by (value_in t) (drop i l) ≡ suc (first_by (value_in t) (drop (i + 1) l))
  unfolding first_by
  first_next h n =
      let y : is_digit_by (value_in t) (get_or l i 0) ≡ true = lt-ltb _ 16 (rw (value_at t _ byte) at n) in
      rw (add-one, drop-cons l i 0 h, y)
