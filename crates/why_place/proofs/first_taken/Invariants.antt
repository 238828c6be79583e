use Rattle.std.proofs.Common.{◌≡◌, false}
use Rattle.laws.specs.Sets.{any}
use Rattle.why_place.specs.Parts.{takes_in}
use Rattle.why_place.proofs.first_taken.Given as goal

abbrev pub invariant-loop-k : goal.invariant-loop-k
invariant-loop-k l = any l.k (takes_in l.settings.table l.w l.pass) ≡ false
