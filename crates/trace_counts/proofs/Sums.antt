-- Sums of counts, and counts one after the other. Assumes nothing.
use Rattle.std.proofs.Common.{◌≡◌, ℕ, zero, suc, ◌+◌, ◌<◌, ◌≤◌, true, false, eqb, ltb, leb, ◌≢◌, List, [], ◌∷◌, ◌++◌, length, get_or, set, sym, refl, ap, not-suc-le-zero, arith, length-set, get_or-set_other, get_or-set_same, ltb-false, ltb-true, eqb-true, leb-true}
use lib.Seq.{set_out}
use borrow.Author.Tests.{eqb-false}
use Rattle.laws.proofs.Tests.{split}
use Rattle.trace_counts.specs.Counts.{sum_to, slot_of, count_one, count_all}

-- ---- sums

-- each count is within the sum
pub sum_has : (n : ℕ) (l : List ℕ) (j : ℕ) → j < n → get_or l j 0 ≤ sum_to n l
unfolding sum_to
sum_has zero l j h = absurd (not-suc-le-zero h)
sum_has (suc n) l j h =
    split (eqb j n)
    (λ e. let q : get_or l j 0 ≡ get_or l n 0 = ap (λ (k : ℕ). get_or l k 0) (eqb-true j n e) in omega arith)
    (λ z. let d : j ≢ n = eqb-false j n z in omega (arith, sum_has n l j (omega arith)))

sum_above : (n : ℕ) (l : List ℕ) (j v : ℕ) → n ≤ j → sum_to n (set l j v) ≡ sum_to n l
unfolding sum_to
sum_above zero l j v h = refl
sum_above (suc n) l j v h = rw (sum_above n l j v (omega arith), get_or-set_other l j n v 0 (λ e. omega (arith, e)))

-- one count raised by one
pub sum_raised : (n : ℕ) (l : List ℕ) (j : ℕ) → j < n → j < length l → sum_to n (set l j (get_or l j 0 + 1)) ≡ sum_to n l + 1
unfolding sum_to
sum_raised zero l j h b = absurd (not-suc-le-zero h)
sum_raised (suc n) l j h b =
    split (eqb j n)
    (λ e.
    let q : j ≡ n = eqb-true j n e in
    rw (← q, sum_above j l j (get_or l j 0 + 1) (omega arith), get_or-set_same l j (get_or l j 0 + 1) 0 b) (omega arith))
    (λ z.
    let d : j ≢ n = eqb-false j n z in
    rw (sum_raised n l j (omega arith) b, get_or-set_other l j n (get_or l j 0 + 1) 0 (λ e. d (sym e))) (omega arith))

-- which adds at most one, whatever the length
pub sum_raised_le : (n : ℕ) (l : List ℕ) (j : ℕ) → sum_to n (set l j (get_or l j 0 + 1)) ≤ sum_to n l + 1
sum_raised_le n l j =
    split (ltb j (length l))
    (λ y.
    let b : j < length l = ltb-true j (length l) y in
    split (ltb j n)
    (λ z. omega (arith, sum_raised n l j (ltb-true j n z) b))
    (λ z. omega (arith, sum_above n l j (get_or l j 0 + 1) (ltb-false j n z))))
    (λ z. let b : length l ≤ j = ltb-false j (length l) z in rw (set_out l j (get_or l j 0 + 1) b) (omega arith))

-- ---- counts

pub slot_low : (n : ℕ) → 1 ≤ n → n ≤ 17 → slot_of n < 16
slot_low n a b = split (leb n 5) (λ y. rw y (omega (arith, leb-true n 5 y))) (λ z. rw z (omega arith))

pub length_one : (c : List ℕ) (n : ℕ) → length (count_one c n) ≡ length c
unfolding count_one
length_one c n = length-set c (slot_of n) (get_or c (slot_of n) 0 + 1)

pub count_last : (c l : List ℕ) (n : ℕ) → count_all c (l ++ (n ∷ [])) ≡ count_one (count_all c l) n
unfolding count_all
count_last c [] n = refl
count_last c (m ∷ l) n = count_last (count_one c m) l n
