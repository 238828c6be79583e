-- A record as it is read and as it is written. Assumes nothing.
use Prim.Native.Nat.{ℕ, suc, ◌+◌, ◌*◌, ◌/◌, ◌%◌}
use mathlib.Core.Path.{◌≡◌, refl, ap, ◌∙◌}
use mathlib.Core.Bool.{Bool, true, false}
use mathlib.Core.List.{List, ◌∷◌}
use native.Mathlib.Omega.{arith}
use lib.Dec.{eqb}
use lib.ListN.{length, drop, length-drop}
use lib.Seq.{drop-cons}
use borrow.Author.Tests.{eqb-true, eq-eqb}
use Rattle.laws.specs.Sets.{one}
use Rattle.laws.proofs.Laws.{one_le}
use Rattle.laws.proofs.Tests.{split, clash}
use Rattle.transfer.specs.Transfer.{number_of}
use Rattle.transfer.specs.declared.Answer.{Answer}
use Rattle.trace_piece.specs.Piece.{recorded, is_bad, agrees}
use Rattle.trace_report.specs.Pieces.{written, IsRecord}

-- ---- not bad

-- a piece that is not bad
pub record Good (p : List ℕ) : Type 0 where
  pub long : length p ≡ 513
  pub neat : recorded p % 4 ≡ 0

pub good : (p : List ℕ) → is_bad p ≡ false → Good p
unfolding is_bad
good p h =
    split (eqb (length p) 513)
    (λ y. split (eqb (recorded p % 4) 0)
    (λ z. record { long = eqb-true (length p) 513 y; neat = eqb-true (recorded p % 4) 0 z })
    (λ z. clash true refl (rw (y, z) at h)))
    (λ y. clash true refl (rw y at h))

pub not_bad : (p : List ℕ) → length p ≡ 513 → recorded p % 4 ≡ 0 → is_bad p ≡ false
unfolding is_bad
not_bad p l z = rw (eq-eqb (length p) 513 l, eq-eqb (recorded p % 4) 0 z)

-- ---- a record is not bad, and what is not bad is a record

-- its first byte and the rest
parts : (p : List ℕ) → length p ≡ 513 → p ≡ recorded p ∷ drop 1 p
parts p l = drop-cons p 0 0 (omega arith)

pub good_record : (p : List ℕ) → is_bad p ≡ false → IsRecord p
good_record p h =
    let g = good p h in
    let b = recorded p in
    let neat : b % 4 ≡ 0 = g.neat in
    let e : b ≡ b / 8 * 8 + b / 4 % 2 * 4 = omega arith in
    record {
      answer = b / 8;
      discarded = b / 4 % 2;
      arrival = drop 1 p;
      bit = omega arith;
      long = omega (arith, length-drop 1 p, g.long);
      is = parts p g.long ∙ ap (λ (x : ℕ). x ∷ drop 1 p) e;
    }

pub record_good : (p : List ℕ) → IsRecord p → is_bad p ≡ false
record_good p r =
    let first : recorded p ≡ r.answer * 8 + r.discarded * 4 = ap recorded r.is in
    let long : length p ≡ suc (length r.arrival) = ap length r.is in
    not_bad p (omega (arith, long, r.long)) (omega (arith, first))

-- ---- what a record says is ours

module _ (p : List ℕ) (x : Answer) (d : Bool) where
  pub agree_written : is_bad p ≡ false → agrees (recorded p) x d ≡ true → p ≡ written (number_of x) (one d) (drop 1 p)
  unfolding agrees
  agree_written h a =
      let g = good p h in
      split (eqb (recorded p / 8) (number_of x))
      (λ y.
      let n : recorded p / 8 ≡ number_of x = eqb-true (recorded p / 8) (number_of x) y in
      let m : recorded p / 4 % 2 ≡ one d = eqb-true (recorded p / 4 % 2) (one d) (rw y at a) in
      let e : recorded p ≡ number_of x * 8 + one d * 4 = omega (arith, n, m, g.neat) in
      parts p g.long ∙ ap (λ (b : ℕ). b ∷ drop 1 p) e)
      (λ z. clash false (rw z at a) refl)

  pub written_agree : {a : List ℕ} → p ≡ written (number_of x) (one d) a → agrees (recorded p) x d ≡ true
  unfolding agrees
  written_agree e =
      let first : recorded p ≡ number_of x * 8 + one d * 4 = ap recorded e in
      let low = one_le d in
      let n : recorded p / 8 ≡ number_of x = omega arith in
      let m : recorded p / 4 % 2 ≡ one d = omega arith in
      rw (eq-eqb (recorded p / 8) (number_of x) n, eq-eqb (recorded p / 4 % 2) (one d) m)
