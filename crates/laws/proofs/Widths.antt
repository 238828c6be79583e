-- Packing and unpacking are inverse, for every row of widths. Assumes nothing.
use mathlib.Core.Path.{◌≡◌, refl, sym, ◌∙◌}
use mathlib.Core.Bool.{Bool, true, false}
use mathlib.Core.List.{List, [], ◌∷◌, ◌++◌}
use Prim.Native.Nat.{ℕ, ◌+◌, ◌-◌, ◌*◌, ◌/◌, ◌%◌, ◌^◌, ◌<◌, ◌≤◌}
use native.Mathlib.Nat.{mod-lt, mod-one, mod-eq_of_lt, mul-le-mul_right, mul_assoc, mul-add-div_right, mul-add-mod_self_right}
use native.Mathlib.Decide.{ℕ_discrete}
use native.Mathlib.Omega.{arith}
use borrow.Author.Tests.{eq-eqb, ne_eqb}
use lib.Pow.{pow-add, pow_pos, high, mod-pow-add}
use Rattle.laws.specs.Packing.{total, packed, unpacked, octets, bytes_of, fields_of, Fit, none, one, bit, on}

pub total_append : (ws us : List ℕ) → total (ws ++ us) ≡ total ws + total us
unfolding total
total_append [] us = omega arith
total_append (w ∷ ws) us = rw (total_append ws us) (omega arith)

pub packed_lt : {ws vs : List ℕ} → Fit ws vs → packed ws vs < 2 ^ total ws
unfolding packed total
packed_lt none = omega arith
packed_lt (one {w} {v} {ws} {vs} h f) =
    let p = packed_lt f in
    let q : (v + 1) * 2 ^ total ws ≤ 2 ^ w * 2 ^ total ws = mul-le-mul_right (2 ^ total ws) (omega arith) in
    rw (pow-add 2 w (total ws)) (omega (arith, q))

-- the fields of a number do not see what stands above them
above : (ws : List ℕ) (x p : ℕ) → unpacked ws (x * 2 ^ total ws + p) ≡ unpacked ws p
unfolding unpacked total
above [] x p = refl
above (w ∷ ws) x p =
    let e : x * 2 ^ (w + total ws) ≡ x * 2 ^ w * 2 ^ total ws = rw (pow-add 2 w (total ws)) (sym (mul_assoc x (2 ^ w) (2 ^ total ws))) in
    rw (e, above ws (x * 2 ^ w) p, mul-add-div_right (pow_pos (total ws)) (x * 2 ^ w) p, mul-add-mod_self_right x (2 ^ w) (p / 2 ^ total ws)) refl

pub unpacked_packed : {ws vs : List ℕ} → Fit ws vs → unpacked ws (packed ws vs) ≡ vs
unfolding packed unpacked
unpacked_packed none = refl
unpacked_packed (one {w} {v} {ws} {vs} h f) =
    let p = packed_lt f in
    rw (high v (total ws) p, mod-eq_of_lt h, above ws v (packed ws vs), unpacked_packed f) refl

pub unpacked_fit : (ws : List ℕ) (n : ℕ) → Fit ws (unpacked ws n)
unfolding unpacked
unpacked_fit [] n = none
unpacked_fit (w ∷ ws) n = one (mod-lt (n / 2 ^ total ws) (pow_pos w)) (unpacked_fit ws n)

packed_mod : (ws : List ℕ) (n : ℕ) → packed ws (unpacked ws n) ≡ n % 2 ^ total ws
unfolding packed unpacked total
packed_mod [] n = sym (mod-one n)
packed_mod (w ∷ ws) n = rw (packed_mod ws n) (sym (mod-pow-add n w (total ws)))

pub packed_unpacked : (ws : List ℕ) (n : ℕ) → n < 2 ^ total ws → packed ws (unpacked ws n) ≡ n
packed_unpacked ws n h = packed_mod ws n ∙ mod-eq_of_lt h

-- fields go to bytes and come back; bytes go to fields and come back
module _ (ws : List ℕ) (n : ℕ) (even : total ws ≡ total (octets n)) where
  pub fields_bytes : {vs : List ℕ} → Fit ws vs → fields_of ws n (bytes_of ws n vs) ≡ vs
  unfolding fields_of bytes_of
  fields_bytes {vs} f = rw (packed_unpacked (octets n) (packed ws vs) (rw (← even) (packed_lt f))) (unpacked_packed f)

  pub bytes_fields : {bs : List ℕ} → Fit (octets n) bs → bytes_of ws n (fields_of ws n bs) ≡ bs
  unfolding fields_of bytes_of
  bytes_fields {bs} f = rw (packed_unpacked ws (packed (octets n) bs) (rw even (packed_lt f))) (unpacked_packed f)

  pub bytes_fit : {vs : List ℕ} → Fit ws vs → Fit (octets n) (bytes_of ws n vs)
  unfolding bytes_of
  bytes_fit {vs} f = unpacked_fit (octets n) (packed ws vs)

  pub fields_fit : {bs : List ℕ} → Fit (octets n) bs → Fit ws (fields_of ws n bs)
  unfolding fields_of
  fields_fit {bs} f = unpacked_fit ws (packed (octets n) bs)

  -- bytes whose number is that of the fields are the fields' bytes, and fields whose number is that of the bytes are the bytes' fields
  pub bytes_are : (vs : List ℕ) {bs : List ℕ} → Fit (octets n) bs → packed (octets n) bs ≡ packed ws vs → bs ≡ bytes_of ws n vs
  unfolding bytes_of
  bytes_are vs f e = rw (← e) (sym (unpacked_packed f))

  pub fields_are : {vs : List ℕ} (bs : List ℕ) → Fit ws vs → packed ws vs ≡ packed (octets n) bs → vs ≡ fields_of ws n bs
  unfolding fields_of
  fields_are bs f e = rw (← e) (sym (unpacked_packed f))

-- ---- flags

pub bit_lt : (b : Bool) → bit b < 2
bit_lt true = omega arith
bit_lt false = omega arith

pub on_bit : (b : Bool) → on (bit b) ≡ b
on_bit true = refl
on_bit false = refl

pub bit_on : (n : ℕ) → n < 2 → bit (on n) ≡ n
bit_on n h = by-case (ℕ_discrete n 1)
  where
    by-case : Dec (n ≡ 1) → bit (on n) ≡ n
    by-case (yes e) = rw (eq-eqb n 1 e) (sym e)
    by-case (no e) = rw (ne_eqb n 1 e) (omega arith)
