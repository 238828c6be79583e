use mathlib.Core.Path.{◌≡◌}
use Rattle.trace_parts.specs.Summing.{summed_to}
use Rattle.trace_parts.proofs.summed.Given as goal

abbrev pub invariant-loop-k : goal.invariant-loop-k
invariant-loop-k l = l.counts ≡ summed_to l.a l.b l.k
