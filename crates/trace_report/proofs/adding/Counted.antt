-- A tally added to a report is the report with those records counted. Assumes nothing.
use Prim.Native.Nat.{ℕ, zero, suc, ◌+◌, ◌-◌, ◌/◌, ◌%◌, ◌≤◌, ◌<◌}
use mathlib.Core.Path.{◌≡◌, refl, sym, ap, ◌∙◌}
use mathlib.Core.Logic.{◌≢◌}
use mathlib.Core.List.{List, [], ◌∷◌, ◌++◌}
use native.Mathlib.Omega.{arith}
use lib.Dec.{leb, ltb, eqb}
use lib.ListN.{length, get_or, set, replicate, length-set, get_or-replicate}
use lib.Seq.{get_or-set_same, get_or-set_other, ext_get_or}
use borrow.Author.Tests.{leb-true, leb-false, ltb-true, ltb-false, eqb-true, eqb-false, eq-eqb, ne_eqb}
use Rattle.laws.specs.Sets.{one}
use Rattle.laws.proofs.Tests.{split}
use Rattle.trace_counts.specs.declared.Report.{Report}
use Rattle.trace_counts.specs.Counts.{sum_to, slot_of, count_one, count_all, raised, tallied, recorded_at, tally_to, number_at, added_at, added_counts, with_tally}
use Rattle.trace_counts.proofs.Sums.{sum_has, sum_raised_le, slot_low, length_one, count_last}

-- ---- the first n records, by the bytes that they begin with

-- the recorded answers
unfoldable pub numbers_to : List ℕ → ℕ → List ℕ
numbers_to t zero = []
numbers_to t (suc n) = numbers_to t n ++ (recorded_at t n / 8 ∷ [])

-- how many of them discarded
unfoldable pub discards_to : List ℕ → ℕ → ℕ
discards_to t zero = 0
discards_to t (suc n) = discards_to t n + recorded_at t n / 4 % 2

-- they have answers of ours, and every figure stays within 32 bits
pub record Countable (r : Report) (t : List ℕ) (n : ℕ) : Type 0 where
  pub ours : (k : ℕ) → k < n → (1 ≤ recorded_at t k / 8) × (recorded_at t k / 8 ≤ 17) × (recorded_at t k / 8 ≢ 6)
  pub sum : sum_to 16 r.counts ≡ r.records
  pub few : r.discards ≤ r.records
  pub room : r.records + n ≤ 4294967295

-- the report with them counted
unfoldable pub counted_of : Report → List ℕ → ℕ → Report
counted_of r t n =
    record {
      records = r.records + n;
      counts = count_all r.counts (numbers_to t n);
      discards = r.discards + discards_to t n;
      marked = r.marked;
      missing = r.missing;
    }

-- ---- a tally has what was counted

-- how many of the first n records say number m
unfoldable times_to : List ℕ → ℕ → ℕ → ℕ
times_to t m zero = 0
times_to t m (suc n) = times_to t m n + one (eqb m (recorded_at t n / 8))

times_few : (t : List ℕ) (m n : ℕ) → times_to t m n ≤ n
unfolding times_to
times_few t m zero = omega arith
times_few t m (suc n) = split (eqb m (recorded_at t n / 8)) (λ y. rw y (omega (arith, times_few t m n))) (λ z. rw z (omega (arith, times_few t m n)))

discards_few : (t : List ℕ) (n : ℕ) → discards_to t n ≤ n
unfolding discards_to
discards_few t zero = omega arith
discards_few t (suc n) = omega (arith, discards_few t n)

length_tally : (l t : List ℕ) (n : ℕ) → length (tally_to l t n) ≡ length l
unfolding tally_to tallied raised
length_tally l t zero = refl
length_tally l t (suc n) =
    let m = tally_to l t n in
    let b = recorded_at t n in
    let k = set m (b / 8) ((get_or m (b / 8) 0 + 1) % 18446744073709551616) in
    length-set k 32 ((get_or k 32 0 + b / 4 % 2) % 18446744073709551616)
    ∙ length-set m (b / 8) ((get_or m (b / 8) 0 + 1) % 18446744073709551616)
    ∙ length_tally l t n

abbrev pub zeros : List ℕ
zeros = replicate 33 0

-- one record more: the count of another number stays
module _ (l : List ℕ) (b : ℕ) (long : length l ≡ 33) (low : b / 8 ≤ 31) where
  abbrev once : List ℕ
  once = raised l (b / 8) 1

  long_once : length once ≡ 33
  unfolding raised
  long_once = length-set l (b / 8) ((get_or l (b / 8) 0 + 1) % 18446744073709551616) ∙ long

  tallied_at : (m : ℕ) → m ≤ 31 → get_or l m 0 < 4294967296 → get_or (tallied l b) m 0 ≡ get_or l m 0 + one (eqb m (b / 8))
  unfolding tallied raised
  tallied_at m h few =
      get_or-set_other once 32 m ((get_or once 32 0 + b / 4 % 2) % 18446744073709551616) 0 (λ e. omega (arith, e))
      ∙ split (eqb m (b / 8))
      (λ y. let q : m ≡ b / 8 = eqb-true m (b / 8) y in rw (y, ← q) (get_or-set_same l m ((get_or l m 0 + 1) % 18446744073709551616) 0 (omega arith) ∙ omega arith))
      (λ z. let d : m ≢ b / 8 = eqb-false m (b / 8) z in rw z (get_or-set_other l (b / 8) m ((get_or l (b / 8) 0 + 1) % 18446744073709551616) 0 d ∙ omega arith))

  tallied_last : get_or l 32 0 < 4294967296 → get_or (tallied l b) 32 0 ≡ get_or l 32 0 + b / 4 % 2
  unfolding tallied raised
  tallied_last few =
      let same : get_or once 32 0 ≡ get_or l 32 0 = get_or-set_other l (b / 8) 32 ((get_or l (b / 8) 0 + 1) % 18446744073709551616) 0 (λ e. omega (arith, e)) in
      get_or-set_same once 32 ((get_or once 32 0 + b / 4 % 2) % 18446744073709551616) 0 (omega (arith, long_once))
      ∙ omega (arith, same, few)

module _ (t : List ℕ) where
  tally_has : (n : ℕ) → n ≤ 4294967295 → ((k : ℕ) → k < n → recorded_at t k / 8 ≤ 17) → (m : ℕ) → m ≤ 31 → get_or (tally_to zeros t n) m 0 ≡ times_to t m n
  unfolding tally_to times_to
  tally_has zero s f m h = get_or-replicate {A = ℕ} 33 m 0 0 (omega arith)
  tally_has (suc n) s f m h =
      let l = tally_to zeros t n in
      let low = f n (omega arith) in
      let was = tally_has n (omega arith) (λ k b. f k (omega arith)) m h in
      tallied_at l (recorded_at t n) (length_tally zeros t n) (omega (arith, low)) m h (omega (arith, was, times_few t m n))
      ∙ ap (λ (x : ℕ). x + one (eqb m (recorded_at t n / 8))) was

  tally_discards : (n : ℕ) → n ≤ 4294967295 → ((k : ℕ) → k < n → recorded_at t k / 8 ≤ 17) → get_or (tally_to zeros t n) 32 0 ≡ discards_to t n
  unfolding tally_to discards_to
  tally_discards zero s f = get_or-replicate {A = ℕ} 33 32 0 0 (omega arith)
  tally_discards (suc n) s f =
      let l = tally_to zeros t n in
      let low = f n (omega arith) in
      let was = tally_discards n (omega arith) (λ k b. f k (omega arith)) in
      tallied_last l (recorded_at t n) (length_tally zeros t n) (omega (arith, low)) (omega (arith, was, discards_few t n))
      ∙ ap (λ (x : ℕ). x + recorded_at t n / 4 % 2) was

-- ---- and so have the counts

-- the place of a number is the one that has it
slot_number : (x k : ℕ) → 1 ≤ x → x ≤ 17 → x ≢ 6 → k < 16 → eqb (number_at k) x ≡ eqb k (slot_of x)
slot_number x k a b d h =
    split (ltb k 5)
    (λ y. let i : k < 5 = ltb-true k 5 y in split (leb x 5)
    (λ z. let j : x ≤ 5 = leb-true x 5 z in rw (y, z) (same (k + 1) x k (x - 1) (λ e. omega (arith, e)) (λ e. omega (arith, e))))
    (λ z. let j : 5 < x = leb-false x 5 z in rw (y, z) (same (k + 1) x k (x - 2) (λ e. omega (arith, e)) (λ e. omega (arith, e, d)))))
    (λ y. let i : 5 ≤ k = ltb-false k 5 y in split (leb x 5)
    (λ z. let j : x ≤ 5 = leb-true x 5 z in rw (y, z) (same (k + 2) x k (x - 1) (λ e. omega (arith, e)) (λ e. omega (arith, e))))
    (λ z. let j : 5 < x = leb-false x 5 z in rw (y, z) (same (k + 2) x k (x - 2) (λ e. omega (arith, e)) (λ e. omega (arith, e)))))
  where
    same : (p q u v : ℕ) → (p ≡ q → u ≡ v) → (u ≡ v → p ≡ q) → eqb p q ≡ eqb u v
    same p q u v f g =
        split (eqb p q)
        (λ y. y ∙ sym (eq-eqb u v (f (eqb-true p q y))))
        (λ z. z ∙ sym (ne_eqb u v (λ e. eqb-false p q z (g e))))

module _ (c : List ℕ) where
  one_at : (x k : ℕ) → 1 ≤ x → x ≤ 17 → x ≢ 6 → k < 16 → k < length c → get_or (count_one c x) k 0 ≡ get_or c k 0 + one (eqb (number_at k) x)
  unfolding count_one
  one_at x k a b d h low =
      let v = get_or c (slot_of x) 0 + 1 in
      rw (slot_number x k a b d h)
      (split (eqb k (slot_of x))
      (λ y. let q : k ≡ slot_of x = eqb-true k (slot_of x) y in rw (y, ← q) (get_or-set_same c k (get_or c k 0 + 1) 0 (omega arith)))
      (λ z. let n : k ≢ slot_of x = eqb-false k (slot_of x) z in rw z (get_or-set_other c (slot_of x) k v 0 n ∙ omega arith)))

length_all : (c l : List ℕ) → length (count_all c l) ≡ length c
unfolding count_all
length_all c [] = refl
length_all c (n ∷ l) = length_all (count_one c n) l ∙ length_one c n

module _ (t c : List ℕ) where
  counts_have : (n : ℕ) → ((k : ℕ) → k < n → (1 ≤ recorded_at t k / 8) × (recorded_at t k / 8 ≤ 17) × (recorded_at t k / 8 ≢ 6)) → (k : ℕ) → k < 16 → k < length c
      → get_or (count_all c (numbers_to t n)) k 0 ≡ get_or c k 0 + times_to t (number_at k) n
  unfolding numbers_to times_to count_all
  counts_have zero f k h low = omega arith
  counts_have (suc n) f k h low =
      let all = count_all c (numbers_to t n) in
      let o = f n (omega arith) in
      ap (λ (l : List ℕ). get_or l k 0) (count_last c (numbers_to t n) (recorded_at t n / 8))
      ∙ one_at all (recorded_at t n / 8) k o.0 o.1 o.2 h (omega (arith, length_all c (numbers_to t n)))
      ∙ ap (λ (x : ℕ). x + one (eqb (number_at k) (recorded_at t n / 8))) (counts_have n (λ j b. f j (omega arith)) k h low)
      ∙ omega arith

  -- past the 16 places all stays
  counts_past : (n : ℕ) → ((k : ℕ) → k < n → (1 ≤ recorded_at t k / 8) × (recorded_at t k / 8 ≤ 17) × (recorded_at t k / 8 ≢ 6)) → (k : ℕ) → 16 ≤ k → get_or (count_all c (numbers_to t n)) k 0 ≡ get_or c k 0
  unfolding numbers_to count_all count_one
  counts_past zero f k h = refl
  counts_past (suc n) f k h =
      let all = count_all c (numbers_to t n) in
      let x = recorded_at t n / 8 in
      let o = f n (omega arith) in
      let low = slot_low x o.0 o.1 in
      ap (λ (l : List ℕ). get_or l k 0) (count_last c (numbers_to t n) x)
      ∙ get_or-set_other all (slot_of x) k (get_or all (slot_of x) 0 + 1) 0 (λ e. omega (arith, e, low))
      ∙ counts_past n (λ j b. f j (omega arith)) k h

  sum_most : (n : ℕ) → sum_to 16 (count_all c (numbers_to t n)) ≤ sum_to 16 c + n
  unfolding numbers_to count_all count_one
  sum_most zero = omega arith
  sum_most (suc n) =
      let all = count_all c (numbers_to t n) in
      rw (count_last c (numbers_to t n) (recorded_at t n / 8))
      (omega (arith, sum_raised_le 16 all (slot_of (recorded_at t n / 8)), sum_most n))

-- ---- a tally added

number_low : (k : ℕ) → k < 16 → number_at k ≤ 31
number_low k h = split (ltb k 5) (λ y. rw y (omega (arith, ltb-true k 5 y))) (λ z. rw z (omega arith))

length_added : (c l : List ℕ) (n : ℕ) → length (added_counts c l n) ≡ length c
unfolding added_counts
length_added c l zero = refl
length_added c l (suc n) = length-set (added_counts c l n) n (added_at c l n) ∙ length_added c l n

added_in : (c l : List ℕ) (n k : ℕ) → k < n → k < length c → get_or (added_counts c l n) k 0 ≡ added_at c l k
unfolding added_counts
added_in c l zero k h low = absurd (omega (arith, h))
added_in c l (suc n) k h low =
    split (eqb k n)
    (λ y. let q : k ≡ n = eqb-true k n y in rw (← q) (get_or-set_same (added_counts c l k) k (added_at c l k) 0 (omega (arith, length_added c l k))))
    (λ z. let d : k ≢ n = eqb-false k n z in get_or-set_other (added_counts c l n) n k (added_at c l n) 0 d ∙ added_in c l n k (omega arith) low)

added_out : (c l : List ℕ) (n k : ℕ) → n ≤ k → get_or (added_counts c l n) k 0 ≡ get_or c k 0
unfolding added_counts
added_out c l zero k h = refl
added_out c l (suc n) k h = get_or-set_other (added_counts c l n) n k (added_at c l n) 0 (λ e. omega (arith, e)) ∙ added_out c l n k (omega arith)

pub tally_is : (r : Report) (t : List ℕ) (n : ℕ) → Countable r t n → with_tally r (tally_to zeros t n) n ≡ counted_of r t n
unfolding with_tally counted_of
tally_is r t n c =
    let l = tally_to zeros t n in
    let small : n ≤ 4294967295 = omega (arith, c.room) in
    let low : (k : ℕ) → k < n → recorded_at t k / 8 ≤ 17 = λ k b. (c.ours k b).1 in
    let all = count_all r.counts (numbers_to t n) in
    let discards = tally_discards t n small low in
    let most = sum_most t r.counts n in
    let same : (j : ℕ) → j < length (added_counts r.counts l 16) → get_or (added_counts r.counts l 16) j 0 ≡ get_or all j 0 = λ j b.
    let long : j < length r.counts = omega (arith, b, length_added r.counts l 16) in
    split (ltb j 16)
    (λ y.
    let i : j < 16 = ltb-true j 16 y in
    let have = counts_have t r.counts n c.ours j i long in
    let tally = tally_has t n small low (number_at j) (number_low j i) in
    added_in r.counts l 16 j i long ∙ omega (arith, have, tally, sum_has 16 all j i, most, c.sum, c.room))
    (λ z.
    let i : 16 ≤ j = ltb-false j 16 z in
    added_out r.counts l 16 j i ∙ sym (counts_past t r.counts n c.ours j i)) in
    let hr : (r.records + n) % 4294967296 ≡ r.records + n = omega (arith, c.room) in
    let hd : (r.discards + get_or l 32 0) % 4294967296 ≡ r.discards + discards_to t n = omega (arith, discards, discards_few t n, c.few, c.room) in
    rw (hr, hd, ext_get_or 0 (added_counts r.counts l 16) all (length_added r.counts l 16 ∙ sym (length_all r.counts (numbers_to t n))) same)
