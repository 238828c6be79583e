-- The laws of the merge itself. Assumes nothing.
use Prim.Native.Nat.{ℕ, ◌+◌, ◌≤◌}
use mathlib.Core.Path.{◌≡◌, refl, sym, ap, ◌∙◌}
use mathlib.Core.Bool.{Bool, true, false}
use native.Mathlib.Omega.{arith}
use Rattle.std.specs.Prelude.{Result, Ok, Err}
use lib.Dec.{leb}
use borrow.Author.Tests.{leb-true, le-leb}
use Rattle.laws.proofs.Tests.{split, clash, and_left, and_right, is_false}
use Rattle.trace_counts.specs.Counts.{sum_to, good_report}
use Rattle.trace_parts.specs.declared.Part.{Part}
use Rattle.trace_counts.specs.declared.ReportError.{ReportError}
use Rattle.trace_counts.specs.declared.ReportError.TheVariants.{TooMany}
use Rattle.trace_parts.specs.Merging.{fresh_part, empty_report, good_part, fits, room_for, joined, merge_number, merge_of}
use Rattle.trace_parts.proofs.Joined.{fresh_right, fresh_left, joined_assoc, good_joined}
use Rattle.trace_claims.specs.MergesClaims.{merge_both, Whole, FreshIsNeutral, MergesAssociate}

fresh_good : good_part fresh_part ≡ true
unfolding good_part good_report empty_report sum_to
fresh_good = refl

merged_is : (a b : Part) → good_part a ≡ true → good_part b ≡ true → room_for a b ≡ true → merge_of a b ≡ Ok (joined a b)
unfolding merge_of
merged_is a b g h m = rw (g, h, m)

many_is : (a b : Part) → good_part a ≡ true → good_part b ≡ true → room_for a b ≡ false → merge_of a b ≡ Err TooMany
unfolding merge_of
many_is a b g h m = rw (g, h, m)

fits_in_lem : (r m t n : ℕ) → r + m ≤ 4294967295 → t + n ≤ 4294967295 → fits r m t n ≡ true
fits_in_lem r m t n h i = rw (le-leb (r + m) 4294967295 h, le-leb (t + n) 4294967295 i)

pub fresh_is_neutral : FreshIsNeutral
unfolding FreshIsNeutral room_for
fresh_is_neutral p w =
    let r = p.report.records in
    let t = p.traces in
    let h : r + 0 ≤ 4294967295 = omega (arith, w.records) in
    let i : t + 0 ≤ 4294967295 = omega (arith, w.traces) in
    let k : 0 + r ≤ 4294967295 = omega (arith, w.records) in
    let l : 0 + t ≤ 4294967295 = omega (arith, w.traces) in (
      merged_is p fresh_part w.good fresh_good (fits_in_lem r 0 t 0 h i) ∙ ap Ok (fresh_right p w.slots),
      merged_is fresh_part p fresh_good w.good (fits_in_lem 0 r 0 t k l) ∙ ap Ok (fresh_left p w.slots w.good),
    )

-- what two sums that fit say
fits_both : (r m t n : ℕ) → fits r m t n ≡ true → (r + m ≤ 4294967295) × (t + n ≤ 4294967295)
fits_both r m t n e =
    let x = leb (r + m) 4294967295 in
    let y = leb (t + n) 4294967295 in
    (leb-true (r + m) 4294967295 (and_left x y e), leb-true (t + n) 4294967295 (and_right x y e))

both_merged : (a b : Part) → merge_both (Ok a) (Ok b) ≡ merge_of a b
unfolding merge_both
both_merged a b = refl

module _ (a b c : Part) (wa : Whole a) (wb : Whole b) (wc : Whole c) where
  abbrev left : Result Part ReportError
  left = merge_both (merge_of a b) (Ok c)

  abbrev right : Result Part ReportError
  right = merge_both (Ok a) (merge_of b c)

  -- all three fit
  abbrev total : Bool
  total = fits (a.report.records + b.report.records) c.report.records (a.traces + b.traces) c.traces

  left_merged : total ≡ true → left ≡ Ok (joined (joined a b) c)
  unfolding room_for joined
  left_merged e =
      let f = fits_both (a.report.records + b.report.records) c.report.records (a.traces + b.traces) c.traces e in
      let m : room_for a b ≡ true = fits_in_lem a.report.records b.report.records a.traces b.traces (omega (arith, f.0)) (omega (arith, f.1)) in
      ap (λ (o : Result Part ReportError). merge_both o (Ok c)) (merged_is a b wa.good wb.good m)
      ∙ both_merged (joined a b) c
      ∙ merged_is (joined a b) c (good_joined a b wa.good wb.good) wc.good e

  right_merged : total ≡ true → right ≡ Ok (joined a (joined b c))
  unfolding room_for joined
  right_merged e =
      let f = fits_both (a.report.records + b.report.records) c.report.records (a.traces + b.traces) c.traces e in
      let m : room_for b c ≡ true = fits_in_lem b.report.records c.report.records b.traces c.traces (omega (arith, f.0)) (omega (arith, f.1)) in
      let k : room_for a (joined b c) ≡ true = fits_in_lem a.report.records (b.report.records + c.report.records) a.traces (b.traces + c.traces) (omega (arith, f.0)) (omega (arith, f.1)) in
      ap (merge_both (Ok a)) (merged_is b c wb.good wc.good m)
      ∙ both_merged a (joined b c)
      ∙ merged_is a (joined b c) wa.good (good_joined b c wb.good wc.good) k

  left_many : total ≡ false → merge_number left ≡ 70
  unfolding room_for joined merge_both
  left_many e =
      split (room_for a b)
      (λ m. ap merge_number (ap (λ (o : Result Part ReportError). merge_both o (Ok c)) (merged_is a b wa.good wb.good m) ∙ both_merged (joined a b) c ∙ many_is (joined a b) c (good_joined a b wa.good wb.good) wc.good e))
      (λ n. ap (λ (o : Result Part ReportError). merge_number (merge_both o (Ok c))) (many_is a b wa.good wb.good n))

  right_many : total ≡ false → merge_number right ≡ 70
  unfolding room_for joined merge_both
  right_many e =
      split (room_for b c)
      (λ m.
      let k : room_for a (joined b c) ≡ false =
      is_false (room_for a (joined b c))
      (λ y.
      let f = fits_both a.report.records (b.report.records + c.report.records) a.traces (b.traces + c.traces) y in
      clash total (fits_in_lem (a.report.records + b.report.records) c.report.records (a.traces + b.traces) c.traces (omega (arith, f.0)) (omega (arith, f.1))) e) in
      ap merge_number (ap (merge_both (Ok a)) (merged_is b c wb.good wc.good m) ∙ both_merged a (joined b c) ∙ many_is a (joined b c) wa.good (good_joined b c wb.good wc.good) k))
      (λ n. ap (λ (o : Result Part ReportError). merge_number (merge_both (Ok a) o)) (many_is b c wb.good wc.good n))

pub merges_associate : MergesAssociate
unfolding MergesAssociate
merges_associate a b c wa wb wc =
    split (total a b c wa wb wc)
    (λ e. let s = left_merged a b c wa wb wc e ∙ ap Ok (joined_assoc a b c) ∙ sym (right_merged a b c wa wb wc e) in (ap merge_number s, λ z. s))
    (λ e. let l = left_many a b c wa wb wc e in let r = right_many a b c wa wb wc e in (l ∙ sym r, λ z. absurd (omega (arith, l, z))))
