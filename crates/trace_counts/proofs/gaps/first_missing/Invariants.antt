use Rattle.std.proofs.Common.{◌≡◌, false}
use Rattle.laws.specs.Sets.{any}
use Rattle.trace_counts.specs.Counts.{is_missing}
use Rattle.trace_counts.proofs.gaps.first_missing.Given as goal

abbrev pub invariant-loop-k : goal.invariant-loop-k
invariant-loop-k l = any l.k (is_missing l.map) ≡ false
