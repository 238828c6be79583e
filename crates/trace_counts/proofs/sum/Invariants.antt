use Rattle.std.proofs.Common.{◌≡◌, ◌*◌, ◌≤◌}
use Rattle.trace_counts.specs.Counts.{sum_to}
use Rattle.trace_counts.proofs.sum.Given as goal

abbrev pub invariant-loop-i : goal.invariant-loop-i
invariant-loop-i l = (l.total ≡ sum_to l.i l.counts) × (l.total ≤ l.i * 4294967295)
