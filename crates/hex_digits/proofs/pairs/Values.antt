-- Characters judged by their values, one after the other and by the bits met. Assumes nothing.
use mathlib.Core.Path.{◌≡◌, refl, sym, ap, ◌∙◌}
use mathlib.Core.Bool.{Bool, ◌&&◌, and_assoc, and-true}
use mathlib.Core.List.{List, [], ◌∷◌, ◌++◌}
use Prim.Native.Nat.{ℕ, ◌+◌, ◌<◌}
use native.Mathlib.Numerals.{add-one}
use native.Mathlib.Omega.{arith}
use lib.Bits.{bit_or, or_lt, or_add_and, and_le_l, and_le_r}
use lib.Dec.{ltb}
use lib.ListN.{length, get_or, take, drop, take-append-drop}
use lib.Seq.{take-suc}
use borrow.Author.Tests.{lt-ltb, le-ltb, ltb-true, ltb-false}
use Rattle.laws.proofs.Tests.{split}
use Rattle.hex_digits.specs.Values.{value_in, is_digit_by, all_by}

-- a byte's entry
pub value_at : (t : List ℕ) (c : ℕ) → c < 256 → get_or t c 0 ≡ value_in t c
unfolding value_in
value_at t c h = rw (lt-ltb c 256 h)

-- all values met are digits exactly if the bits of all of them are below 16
pub met_next : (m v : ℕ) → ltb (bit_or m v) 16 ≡ ltb m 16 && ltb v 16
met_next m v =
    split (ltb m 16)
    (λ y.
    split (ltb v 16)
    (λ z. rw (y, z) (lt-ltb (bit_or m v) 16 (or_lt 4 m v (ltb-true m 16 y) (ltb-true v 16 z))))
    (λ z. rw (y, z) (le-ltb (bit_or m v) 16 (omega (arith, or_add_and m v, and_le_l m v, ltb-false v 16 z)))))
    (λ y. rw y (le-ltb (bit_or m v) 16 (omega (arith, or_add_and m v, and_le_r m v, ltb-false m 16 y))))

module _ (v : ℕ → ℕ) where
  -- two parts, judged by themselves
  pub all_append : (k l : List ℕ) → all_by v (k ++ l) ≡ all_by v k && all_by v l
  unfolding all_by
  all_append [] l = refl
  all_append (c ∷ k) l =
      ap (λ (b : Bool). is_digit_by v c && b) (all_append k l) ∙ sym (and_assoc (is_digit_by v c) (all_by v k) (all_by v l))

  pub all_parts : (j : ℕ) (l : List ℕ) → all_by v (take j l) && all_by v (drop j l) ≡ all_by v l
  all_parts j l = sym (all_append (take j l) (drop j l)) ∙ ap (all_by v) (take-append-drop j l)

-- one character more
pub all_next : (t l : List ℕ) (j m : ℕ) {v : ℕ} → j < length l → v ≡ get_or t (get_or l j 0) 0 → get_or l j 0 < 256 → ltb m 16 ≡ all_by (value_in t) (take j l)
    → ltb (bit_or m v) 16 ≡ all_by (value_in t) (take (j + 1) l)
unfolding all_by
all_next t l j m {v} h e n q =
    let c = get_or l j 0 in
    let a : ltb v 16 ≡ is_digit_by (value_in t) c && all_by (value_in t) [] = rw (e, value_at t c n) (sym (and-true (is_digit_by (value_in t) c))) in
    met_next m v ∙ rw (q, a, add-one, take-suc l j 0 h) (sym (all_append (value_in t) (take j l) (c ∷ [])))
