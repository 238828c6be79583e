use Rattle.std.proofs.Common.{◌≡◌, false}
use Rattle.laws.specs.Sets.{any}
use Rattle.why_place.specs.Placing.{pass_has}
use Rattle.why_place.proofs.in_table.Given as goal

abbrev pub invariant-loop-pass : goal.invariant-loop-pass
invariant-loop-pass l = any l.pass (pass_has l.settings l.family) ≡ false
