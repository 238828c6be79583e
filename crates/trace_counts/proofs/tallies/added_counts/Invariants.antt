use Rattle.std.proofs.Common.{◌≡◌}
use Rattle.trace_counts.specs.Tally.{added_counts}
use Rattle.trace_counts.proofs.tallies.added_counts.Given as goal

abbrev pub invariant-loop-k : goal.invariant-loop-k
invariant-loop-k l = l.counts ≡ added_counts l.was l.tally l.k
