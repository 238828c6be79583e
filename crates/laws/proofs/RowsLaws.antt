-- The laws of rows that have one width: how long they are together, each of them as a part, and one row more written after the others.
-- Assumes nothing.
use mathlib.Core.Path.{◌≡◌, refl, sym, ap, ◌∙◌}
use mathlib.Core.Logic.{◌≢◌}
use mathlib.Core.List.{List, [], ◌++◌, append-nil}
use Prim.Native.Nat.{ℕ, zero, suc, ◌+◌, ◌-◌, ◌*◌, ◌<◌, ◌≤◌}
use native.Mathlib.Nat.{not-suc-le-zero, mul-suc, mul-zero, mul-le-mul_left}
use native.Mathlib.Numerals.{add-one}
use native.Mathlib.Omega.{arith}
use lib.Dec.{eqb}
use lib.ListN.{length, take, drop, length-append, length-drop}
use lib.Seq.{drop_at, take-length, take-append-le, drop-append-le}
use borrow.Author.Tests.{eqb-true, eqb-false}
use Rattle.laws.specs.Over.{over}
use Rattle.laws.specs.Rows.{rows}
use Rattle.laws.proofs.Tests.{split}
use Rattle.laws.proofs.OverLaws.{over_next}

pub rows_none : (f : ℕ → List ℕ) → rows f 0 ≡ []
unfolding rows
rows_none f = refl

-- one row more, as a loop takes it
pub rows_more : (f : ℕ → List ℕ) (k : ℕ) → rows f (k + 1) ≡ rows f k ++ f k
unfolding rows
rows_more f k = rw (add-one k)

-- rows that agree
pub rows_cong : (f g : ℕ → List ℕ) (n : ℕ) → ((j : ℕ) → j < n → f j ≡ g j) → rows f n ≡ rows g n
unfolding rows
rows_cong f g zero h = refl
rows_cong f g (suc n) h = rw (rows_cong f g n (λ j l. h j (omega arith)), h n (omega arith))

-- rows of which those below m have the width w
module _ (w m : ℕ) (f : ℕ → List ℕ) (wide : (j : ℕ) → j < m → length (f j) ≡ w) where
  pub length_rows : (n : ℕ) → n ≤ m → length (rows f n) ≡ w * n
  unfolding rows
  length_rows zero l = sym (mul-zero w)
  length_rows (suc n) l = length-append (rows f n) (f n) ∙ rw (length_rows n (omega arith), wide n (omega arith)) (sym (mul-suc w n))

  -- row k as a part
  pub part_rows : (n k : ℕ) → n ≤ m → k < n → take w (drop (w * k) (rows f n)) ≡ f k
  unfolding rows
  part_rows zero k l h = absurd (not-suc-le-zero h)
  part_rows (suc n) k l h =
      split (eqb k n)
      (λ q.
      let e : k ≡ n = eqb-true k n q in
      rw e
      (ap (take w) (drop_at (rows f n) (f n) (w * n) (length_rows n (omega arith)))
      ∙ ap (λ (i : ℕ). take i (f n)) (sym (wide n (omega arith)))
      ∙ take-length (f n)))
      (λ q.
      let d : k ≢ n = eqb-false k n q in
      let less : w * (k + 1) ≤ w * n = mul-le-mul_left w (omega arith) in
      let fits : w * k + w ≤ length (rows f n) = omega (arith, less, length_rows n (omega arith), mul-suc w k, add-one k) in
      ap (take w) (drop-append-le (w * k) (rows f n) (f n) (omega arith))
      ∙ take-append-le w (drop (w * k) (rows f n)) (f n) (rw (length-drop (w * k) (rows f n)) (omega arith))
      ∙ part_rows n k (omega arith) (omega arith))

  -- one row more, written after the others
  pub rows_over : (d : List ℕ) (k : ℕ) → k < m → w * k + w ≤ length d → over (over d 0 (rows f k)) (w * k) (f k) ≡ over d 0 (rows f (k + 1))
  rows_over d k h l =
      let at : 0 + length (rows f k) ≡ w * k = omega (arith, length_rows k (omega arith)) in
      rw (rows_more f k) (over_next d 0 (rows f k) (w * k) (f k) at (omega (arith, wide k h)))
