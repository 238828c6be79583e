-- One bit of a number: by division as definitions say it, and by a mask as code tests it. Assumes nothing.
use mathlib.Core.Path.{◌≡◌, ap, ◌∙◌}
use mathlib.Core.Bool.{not}
use Prim.Native.Nat.{ℕ, ◌+◌, ◌-◌, ◌*◌, ◌/◌, ◌%◌, ◌^◌}
use native.Mathlib.Decide.{ℕ_discrete}
use native.Mathlib.Omega.{arith}
use lib.Bits.{bit_and, and_high}
use lib.Pow.{pow_pos, pow-add}
use lib.Dec.{eqb}
use borrow.Author.Tests.{eq-eqb, ne_eqb}

pub and_bit : (b p : ℕ) → bit_and b (2 ^ p) ≡ b / 2 ^ p % 2 * 2 ^ p
and_bit b p = ap (λ (m : ℕ). bit_and b m) whole ∙ and_high b 1 p
  where
    whole : 2 ^ p ≡ 2 ^ (1 + p) - 2 ^ p
    whole = rw (pow-add 2 1 p) (omega arith)

-- the mask leaves something where the bit is set
pub mask_bit : (b p : ℕ) → not (eqb (bit_and b (2 ^ p)) 0) ≡ eqb (b / 2 ^ p % 2) 1
mask_bit b p = by-case (ℕ_discrete (b / 2 ^ p % 2) 1)
  where
    by-case : Dec (b / 2 ^ p % 2 ≡ 1) → not (eqb (bit_and b (2 ^ p)) 0) ≡ eqb (b / 2 ^ p % 2) 1
    by-case (yes e) =
        rw (
          eq-eqb (b / 2 ^ p % 2) 1 e,
          ne_eqb (bit_and b (2 ^ p)) 0 (λ z. omega (arith, rw e at (and_bit b p), pow_pos p)),
        )
    by-case (no e) =
        let z : b / 2 ^ p % 2 ≡ 0 = omega arith in
        rw (ne_eqb (b / 2 ^ p % 2) 1 e, eq-eqb (bit_and b (2 ^ p)) 0 (omega (arith, rw z at (and_bit b p))))
