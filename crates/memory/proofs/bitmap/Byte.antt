-- One bit of a byte: by division as `specs/` says it, and by masks as the code tests and sets it. Assumes nothing.
use mathlib.Core.Path.{◌≡◌, sym, ap, ◌∙◌, subst}
use mathlib.Core.Bool.{true, not}
use mathlib.Core.Logic.{◌≢◌}
use Prim.Native.Nat.{ℕ, ◌+◌, ◌-◌, ◌*◌, ◌/◌, ◌%◌, ◌^◌, ◌<◌}
use native.Mathlib.Nat.{add-mul-div_left, add-div_right}
use native.Mathlib.Decide.{dec_lt, ℕ_discrete}
use native.Mathlib.Omega.{arith}
use lib.Bits.{bit_and, bit_or, or_add_and}
use lib.Pow.{pow_pos, pow-add, shr-shr, shl-shr}
use lib.Dec.{eqb}
use borrow.Author.Tests.{eq-eqb, ne_eqb, eqb-false}
use Rattle.laws.proofs.Masks.{and_bit, mask_bit}
use Rattle.laws.proofs.Tests.{split}
use Rattle.memory.specs.Bitmap.{bit, with_bit}

-- ---- bits by division: a bit of weight 2 ^ p that is absent is added

bit_same : (b p : ℕ) → (b / 2 ^ p % 2 ≡ 1 → ⊥) → (b + 2 ^ p) / 2 ^ p % 2 ≡ 1
bit_same b p h = rw (add-div_right b (pow_pos p)) (omega arith)

-- a lower bit
low : (b q d : ℕ) → (b + 2 ^ (q + (1 + d))) / 2 ^ q % 2 ≡ b / 2 ^ q % 2
low b q d = rw (pow-add 2 q (1 + d), add-mul-div_left b (2 ^ (1 + d)) (pow_pos q), pow-add 2 1 d) (omega arith)

-- a higher bit
high : (b p d : ℕ) → (b / 2 ^ p % 2 ≡ 1 → ⊥) → (b + 2 ^ p) / 2 ^ (p + (1 + d)) ≡ b / 2 ^ (p + (1 + d))
high b p d h =
    sym (shr-shr (b + 2 ^ p) p (1 + d)) ∙ sym (shr-shr ((b + 2 ^ p) / 2 ^ p) 1 d)
    ∙ ap (λ (x : ℕ). x / 2 ^ d) (rw (add-div_right b (pow_pos p)) (omega arith))
    ∙ shr-shr (b / 2 ^ p) 1 d ∙ shr-shr b p (1 + d)

bit_other : (b p q : ℕ) → q ≢ p → (b / 2 ^ p % 2 ≡ 1 → ⊥) → (b + 2 ^ p) / 2 ^ q % 2 ≡ b / 2 ^ q % 2
bit_other b p q n h = side (dec_lt q p)
  where
    side : Dec (q < p) → (b + 2 ^ p) / 2 ^ q % 2 ≡ b / 2 ^ q % 2
    side (yes l) = let e : p ≡ q + (1 + (p - q - 1)) = omega arith in rw e (low b q (p - q - 1))
    side (no l) =
        let e : p + (1 + (q - p - 1)) ≡ q = omega arith in
        subst (λ (x : ℕ). (b + 2 ^ p) / 2 ^ x % 2 ≡ b / 2 ^ x % 2) e (ap (λ (x : ℕ). x % 2) (high b p (q - p - 1) h))

-- a byte with bit i set has it, and every other bit as it was
pub with_same : (b i : ℕ) → bit (with_bit b i) i ≡ true
unfolding bit with_bit
with_same b i =
    split (bit b i)
    (λ y. rw (y, y))
    (λ z. rw z (eq-eqb _ _ (bit_same b (7 - i) (eqb-false _ _ z))))

pub with_other : (b i j : ℕ) → i < 8 → j < 8 → j ≢ i → bit (with_bit b i) j ≡ bit b j
unfolding bit with_bit
with_other b i j hi hj n =
    split (bit b i)
    (λ y. rw y)
    (λ z. rw z (ap (λ (x : ℕ). eqb x 1) (bit_other b (7 - i) (7 - j) (omega arith) (eqb-false _ _ z))))

-- ---- bits by masks

shifted : (i : ℕ) → i < 8 → 128 / 2 ^ i ≡ 2 ^ (7 - i)
shifted i l = ap (λ (x : ℕ). x / 2 ^ i) (ap (λ (x : ℕ). 2 ^ x) e ∙ pow-add 2 (7 - i) i) ∙ shl-shr (2 ^ (7 - i)) i
  where
    e : 7 ≡ 7 - i + i
    e = omega arith

pub or_mask : (b i : ℕ) → i < 8 → bit_or b (128 / 2 ^ i) ≡ with_bit b i
unfolding bit with_bit
or_mask b i l = rw (shifted i l) (by-case (ℕ_discrete (b / 2 ^ (7 - i) % 2) 1))
  where
    sum : bit_or b (2 ^ (7 - i)) + b / 2 ^ (7 - i) % 2 * 2 ^ (7 - i) ≡ b + 2 ^ (7 - i)
    sum = rw (← and_bit b (7 - i)) (or_add_and b (2 ^ (7 - i)))

    by-case : Dec (b / 2 ^ (7 - i) % 2 ≡ 1) → bit_or b (2 ^ (7 - i)) ≡ with_bit b i
    by-case (yes e) = rw (eq-eqb (b / 2 ^ (7 - i) % 2) 1 e) (omega (arith, rw e at sum))
    by-case (no e) =
        let z : b / 2 ^ (7 - i) % 2 ≡ 0 = omega arith in
        rw (ne_eqb (b / 2 ^ (7 - i) % 2) 1 e) (omega (arith, rw z at sum))

pub and_mask : (b i : ℕ) → i < 8 → not (eqb (bit_and b (128 / 2 ^ i)) 0) ≡ bit b i
unfolding bit
and_mask b i l = rw (shifted i l) (mask_bit b (7 - i))
