use mathlib.Core.Path.{◌≡◌}
use mathlib.Core.Bool.{false}
use Rattle.laws.specs.Sets.{any}
use Rattle.placement.specs.Place.{user_of}
use Rattle.placement.proofs.ram.ram_family.Given as goal

abbrev pub invariant-loop-i : goal.invariant-loop-i
invariant-loop-i l = any l.i (user_of l.table l.family) ≡ false
