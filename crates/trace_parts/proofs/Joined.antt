-- Two parts as one: a fresh part changes nothing on either side, three parts are one whichever two are taken first, and good parts give a good one. Assumes nothing.
use Prim.Native.Nat.{ℕ, zero, suc, ◌+◌, ◌<◌}
use mathlib.Core.Path.{◌≡◌, refl, sym, ◌∙◌}
use mathlib.Core.Logic.{◌≢◌}
use mathlib.Core.Bool.{Bool, true, false, ◌&&◌, cond}
use mathlib.Core.List.{List}
use native.Mathlib.Omega.{arith}
use Rattle.std.specs.Prelude.{Option, Some, None}
use lib.Dec.{leb, eqb}
use lib.ListN.{length, get_or, replicate, get_or-replicate}
use borrow.Author.Tests.{le-leb, eqb-true, eqb-false, eq-eqb, ne_eqb}
use Rattle.laws.specs.Tab.{tab}
use Rattle.laws.proofs.Tests.{split, clash, and_left, and_right}
use Rattle.laws.proofs.TabLaws.{length_tab, get_d_tab, is_tab}
use Rattle.trace_counts.specs.Counts.{sum_to, good_report}
use Rattle.trace_parts.specs.declared.Part.{Part}
use Rattle.trace_parts.specs.Merging.{fresh_part, is_none, empty_report, good_part, both_at, joined}
use Rattle.trace_parts.proofs.Good.{good_is}

-- ---- sums

-- two tables alike at each place
tab_same : (n : ℕ) (f g : ℕ → ℕ) → ((j : ℕ) → j < n → f j ≡ g j) → tab n f ≡ tab n g
tab_same n f g h = is_tab (tab n f) n g (length_tab n f) (λ j l. get_d_tab n f j l ∙ h j l)

sum_both : (n : ℕ) (a b : List ℕ) (l : List ℕ) → ((j : ℕ) → j < n → get_or l j 0 ≡ both_at a b j) → sum_to n l ≡ sum_to n a + sum_to n b
unfolding sum_to
sum_both zero a b l h = omega arith
sum_both (suc n) a b l h = omega (arith, sum_both n a b l (λ j i. h j (omega arith)), h n (omega arith))

-- the sum of the counts of both
pub sum_joined : (a b : List ℕ) → sum_to 16 (tab 16 (both_at a b)) ≡ sum_to 16 a + sum_to 16 b
sum_joined a b = sum_both 16 a b (tab 16 (both_at a b)) (get_d_tab 16 (both_at a b))

-- ---- a fresh part

cond_same : {A : Type 0} (b : Bool) (x : A) → cond b x x ≡ x
cond_same true x = refl
cond_same false x = refl

-- as the later one
pub fresh_right : (p : Part) → length p.report.counts ≡ 16 → joined p fresh_part ≡ p
unfolding joined
fresh_right p l =
    let c : tab 16 (both_at p.report.counts (replicate 16 0)) ≡ p.report.counts =
    sym (is_tab p.report.counts 16 (both_at p.report.counts (replicate 16 0)) l (λ j i. omega (arith, get_or-replicate {A = ℕ} 16 j 0 0 i))) in
    let r : p.report.records + 0 ≡ p.report.records = omega arith in
    let d : p.report.discards + 0 ≡ p.report.discards = omega arith in
    let t : p.traces + 0 ≡ p.traces = omega arith in
    let x : p.bad + 0 ≡ p.bad = omega arith in
    let y : p.differs + 0 ≡ p.differs = omega arith in
    rw (c, r, d, t, x, y)

-- what a good part of no trace has at its end
none_is : (m : Option ℕ) → is_none m ≡ true → m ≡ None
none_is None e = refl
none_is (Some k) e = clash false e refl

record Empty (p : Part) : Type 0 where
  records : p.report.records ≡ 0
  marked : p.report.marked ≡ 0
  missing : p.report.missing ≡ None

empty_end : (p : Part) → good_part p ≡ true → eqb p.traces 0 ≡ true → Empty p
unfolding empty_report
empty_end p g z =
    let r = p.report in
    let e : eqb r.records 0 && (eqb r.marked 0 && is_none r.missing) ≡ true =
    rw z at (good_is p g).none in
    let f = and_right (eqb r.records 0) (eqb r.marked 0 && is_none r.missing) e in
    record {
      records = eqb-true r.records 0 (and_left (eqb r.records 0) (eqb r.marked 0 && is_none r.missing) e);
      marked = eqb-true r.marked 0 (and_left (eqb r.marked 0) (is_none r.missing) f);
      missing = none_is r.missing (and_right (eqb r.marked 0) (is_none r.missing) f);
    }

-- as the earlier one
pub fresh_left : (p : Part) → length p.report.counts ≡ 16 → good_part p ≡ true → joined fresh_part p ≡ p
unfolding joined
fresh_left p l g =
    let c : tab 16 (both_at (replicate 16 0) p.report.counts) ≡ p.report.counts =
    sym (is_tab p.report.counts 16 (both_at (replicate 16 0) p.report.counts) l (λ j i. omega (arith, get_or-replicate {A = ℕ} 16 j 0 0 i))) in
    let r : 0 + p.report.records ≡ p.report.records = omega arith in
    let d : 0 + p.report.discards ≡ p.report.discards = omega arith in
    let t : 0 + p.traces ≡ p.traces = omega arith in
    let x : 0 + p.bad ≡ p.bad = omega arith in
    let y : 0 + p.differs ≡ p.differs = omega arith in
    split (eqb p.traces 0)
    (λ z. let e = empty_end p g z in rw (c, z, r, d, t, x, y, e.marked, e.missing))
    (λ z. rw (c, z, r, d, t, x, y))

-- ---- three parts

cond_zero : {A : Type 0} (m n : ℕ) (x y z : A) → cond (eqb (m + n) 0) x (cond (eqb n 0) y z) ≡ cond (eqb n 0) (cond (eqb m 0) x y) z
cond_zero m n x y z =
    split (eqb n 0)
    (λ e. let s : m + n ≡ m = omega (arith, eqb-true n 0 e) in rw (e, s))
    (λ e. let s : m + n ≢ 0 = λ q. absurd (eqb-false n 0 e (omega arith)) in rw (e, ne_eqb (m + n) 0 s))

pub joined_assoc : (a b c : Part) → joined (joined a b) c ≡ joined a (joined b c)
unfolding joined
joined_assoc a b c =
    let f = tab 16 (both_at a.report.counts b.report.counts) in
    let g = tab 16 (both_at b.report.counts c.report.counts) in
    let n : tab 16 (both_at f c.report.counts) ≡ tab 16 (both_at a.report.counts g) =
    tab_same 16 (both_at f c.report.counts) (both_at a.report.counts g)
    (λ j l. omega (arith, get_d_tab 16 (both_at a.report.counts b.report.counts) j l, get_d_tab 16 (both_at b.report.counts c.report.counts) j l)) in
    let r : (a.report.records + b.report.records) + c.report.records ≡ a.report.records + (b.report.records + c.report.records) = omega arith in
    let d : (a.report.discards + b.report.discards) + c.report.discards ≡ a.report.discards + (b.report.discards + c.report.discards) = omega arith in
    let t : (a.traces + b.traces) + c.traces ≡ a.traces + (b.traces + c.traces) = omega arith in
    let x : (a.bad + b.bad) + c.bad ≡ a.bad + (b.bad + c.bad) = omega arith in
    let y : (a.differs + b.differs) + c.differs ≡ a.differs + (b.differs + c.differs) = omega arith in
    let m = cond_zero b.traces c.traces a.report.marked b.report.marked c.report.marked in
    let k = cond_zero b.traces c.traces a.report.missing b.report.missing c.report.missing in
    rw (n, r, d, t, x, y, m, k)

-- ---- good parts

pub good_joined : (a b : Part) → good_part a ≡ true → good_part b ≡ true → good_part (joined a b) ≡ true
unfolding joined good_part good_report empty_report
good_joined a b g h =
    let p = a.report in
    let q = b.report in
    let ga = good_is a g in
    let gb = good_is b h in
    let s : eqb (sum_to 16 (tab 16 (both_at p.counts q.counts))) (p.records + q.records) ≡ true =
    eq-eqb (sum_to 16 (tab 16 (both_at p.counts q.counts))) (p.records + q.records) (omega (arith, sum_joined p.counts q.counts, ga.sums, gb.sums)) in
    let d : leb (p.discards + q.discards) (p.records + q.records) ≡ true = le-leb (p.discards + q.discards) (p.records + q.records) (omega (arith, ga.discards, gb.discards)) in
    let x = le-leb ((a.bad + b.bad) + (a.differs + b.differs)) (a.traces + b.traces) (omega (arith, ga.stops, gb.stops)) in
    rw (s, d, x)
    (split (eqb (a.traces + b.traces) 0)
    (λ z.
    let n : a.traces + b.traces ≡ 0 = eqb-true (a.traces + b.traces) 0 z in
    let na : a.traces ≡ 0 = omega arith in
    let nb : b.traces ≡ 0 = omega arith in
    let ea = empty_end a g (eq-eqb a.traces 0 na) in
    let eb = empty_end b h (eq-eqb b.traces 0 nb) in
    let r : p.records + q.records ≡ 0 = omega (arith, ea.records, eb.records) in
    rw (z, r, eq-eqb b.traces 0 nb, ea.marked, ea.missing))
    (λ z. rw z))
