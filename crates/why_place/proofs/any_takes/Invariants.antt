use Rattle.std.proofs.Common.{◌≡◌, false}
use Rattle.laws.specs.Sets.{any}
use Rattle.why_place.specs.Placing.{takes_at}
use Rattle.why_place.proofs.any_takes.Given as goal

abbrev pub invariant-loop-k : goal.invariant-loop-k
invariant-loop-k l = any l.k (takes_at l.settings.table l.family) ≡ false
