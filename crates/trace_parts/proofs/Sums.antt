-- The sums as the code has them: nothing wraps where there is room. Assumes nothing.
use Prim.Native.Nat.{ℕ, zero, suc, ◌+◌, ◌≤◌, ◌<◌}
use mathlib.Core.Path.{◌≡◌, refl, sym, ◌∙◌}
use mathlib.Core.Logic.{◌≢◌}
use mathlib.Core.Bool.{true}
use mathlib.Core.List.{List}
use Rattle.std.specs.Prelude.{Ok}
use native.Mathlib.Omega.{arith}
use lib.Dec.{leb, eqb}
use lib.ListN.{length, get_or, length-set}
use lib.Seq.{get_or-set_same, get_or-set_other}
use borrow.Author.Tests.{leb-true, eqb-true, eqb-false}
use Rattle.laws.specs.Tab.{tab}
use Rattle.laws.proofs.Tests.{split, and_left, and_right}
use Rattle.laws.proofs.TabLaws.{is_tab}
use Rattle.trace_counts.specs.declared.Report.{Report}
use Rattle.trace_counts.proofs.Sums.{sum_has}
use Rattle.trace_parts.specs.declared.Part.{Part}
use Rattle.trace_parts.specs.Merging.{good_part, fits, room_for, both_at, joined, merge_of}
use Rattle.trace_parts.proofs.Good.{good_is}
use Rattle.trace_parts.specs.Summing.{plus, summed_to, joined_by}

-- ---- each place

length_summed : (a b : List ℕ) (n : ℕ) → length (summed_to a b n) ≡ length a
unfolding summed_to
length_summed a b zero = refl
length_summed a b (suc n) = length-set (summed_to a b n) n (plus (get_or a n 0) (get_or b n 0)) ∙ length_summed a b n

summed_at : (a b : List ℕ) (n j : ℕ) → j < n → n ≤ length a → get_or (summed_to a b n) j 0 ≡ plus (get_or a j 0) (get_or b j 0)
unfolding summed_to
summed_at a b zero j h l = absurd (omega arith)
summed_at a b (suc n) j h l =
    let v = plus (get_or a n 0) (get_or b n 0) in
    split (eqb j n)
    (λ y. let e : j ≡ n = eqb-true j n y in rw e (get_or-set_same (summed_to a b n) n v 0 (omega (arith, length_summed a b n))))
    (λ z. let d : j ≢ n = eqb-false j n z in get_or-set_other (summed_to a b n) n j v 0 d ∙ summed_at a b n j (omega arith) (omega arith))

-- ---- good parts with room

plus_fits : (a b : ℕ) → a + b ≤ 4294967295 → plus a b ≡ a + b
plus_fits a b h = omega arith

module _ (a b : Part) (la : length a.report.counts ≡ 16) (ga : good_part a ≡ true) (gb : good_part b ≡ true) (m : room_for a b ≡ true) where
  abbrev p : Report
  p = a.report

  abbrev q : Report
  q = b.report

  records_fit : p.records + q.records ≤ 4294967295
  unfolding room_for
  records_fit = leb-true (p.records + q.records) 4294967295 (and_left (leb (p.records + q.records) 4294967295) (leb (a.traces + b.traces) 4294967295) m)

  traces_fit : a.traces + b.traces ≤ 4294967295
  unfolding room_for
  traces_fit = leb-true (a.traces + b.traces) 4294967295 (and_right (leb (p.records + q.records) 4294967295) (leb (a.traces + b.traces) 4294967295) m)

  counts_fit : summed_to p.counts q.counts 16 ≡ tab 16 (both_at p.counts q.counts)
  counts_fit =
      is_tab (summed_to p.counts q.counts 16) 16 (both_at p.counts q.counts) (length_summed p.counts q.counts 16 ∙ la)
      (λ j l.
      summed_at p.counts q.counts 16 j l (omega arith)
      ∙ plus_fits (get_or p.counts j 0) (get_or q.counts j 0)
      (omega (arith, sum_has 16 p.counts j l, sum_has 16 q.counts j l, (good_is a ga).sums, (good_is b gb).sums, records_fit)))

  pub by_is : joined_by a b ≡ joined a b
  unfolding joined_by joined
  by_is =
      rw (
        counts_fit,
        plus_fits p.records q.records records_fit,
        plus_fits p.discards q.discards (omega (arith, (good_is a ga).discards, (good_is b gb).discards, records_fit)),
        plus_fits a.traces b.traces traces_fit,
        plus_fits a.bad b.bad (omega (arith, (good_is a ga).stops, (good_is b gb).stops, traces_fit)),
        plus_fits a.differs b.differs (omega (arith, (good_is a ga).stops, (good_is b gb).stops, traces_fit)),
      )

-- ---- the ends of a call for two parts

module _ (a b : Part) where
  pub merge_is : {c : Part} → length a.report.counts ≡ 16 → true ≡ good_part a → true ≡ good_part b → true ≡ fits a.report.records b.report.records a.traces b.traces → c ≡ joined_by a b → Ok c ≡ merge_of a b
  unfolding merge_of room_for
  merge_is l g h m e = rw (← g, ← h, ← m, e, by_is a b l (sym g) (sym h) (sym m))
