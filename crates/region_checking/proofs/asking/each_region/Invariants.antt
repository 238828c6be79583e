use mathlib.Core.Path.{◌≡◌}
use mathlib.Core.Bool.{false}
use Rattle.laws.specs.Sets.{any}
use Rattle.region_checking.specs.Parts.{wrong_at, Noted}
use Rattle.region_checking.proofs.asking.each_region.Given as goal

abbrev pub invariant-loop-i : goal.invariant-loop-i
invariant-loop-i l = (any l.i (wrong_at l.size l.file) ≡ false) × Noted l.size l.file l.numbers
