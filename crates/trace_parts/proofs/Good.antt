-- What a good part says. Assumes nothing.
use Prim.Native.Nat.{◌+◌, ◌≤◌}
use mathlib.Core.Path.{◌≡◌}
use mathlib.Core.Bool.{true, ◌&&◌, ◌||◌, not}
use lib.Dec.{leb, eqb}
use borrow.Author.Tests.{leb-true, eqb-true}
use Rattle.laws.proofs.Tests.{and_left, and_right}
use Rattle.trace_counts.specs.Counts.{sum_to, good_report}
use Rattle.trace_parts.specs.declared.Part.{Part}
use Rattle.trace_parts.specs.Merging.{empty_report, good_part}

-- as numbers, and what a part of no trace is
pub record Good (p : Part) : Type 0 where
  pub sums : sum_to 16 p.report.counts ≡ p.report.records
  pub discards : p.report.discards ≤ p.report.records
  pub none : not (eqb p.traces 0) || empty_report p.report ≡ true
  pub stops : p.bad + p.differs ≤ p.traces

pub good_is : (p : Part) → good_part p ≡ true → Good p
unfolding good_part good_report
good_is p g =
    let sum = eqb (sum_to 16 p.report.counts) p.report.records in
    let few = leb p.report.discards p.report.records in
    let none = not (eqb p.traces 0) || empty_report p.report in
    let fit = leb (p.bad + p.differs) p.traces in
    let r = and_left (sum && few) (none && fit) g in
    let s = and_right (sum && few) (none && fit) g in
    record {
      sums = eqb-true (sum_to 16 p.report.counts) p.report.records (and_left sum few r);
      discards = leb-true p.report.discards p.report.records (and_right sum few r);
      none = and_left none fit s;
      stops = leb-true (p.bad + p.differs) p.traces (and_right none fit s);
    }
