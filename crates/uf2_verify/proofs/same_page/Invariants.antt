use mathlib.Core.Path.{◌≡◌}
use mathlib.Core.Bool.{not}
use Rattle.laws.specs.Sets.{any}
use Rattle.uf2_verify.specs.Stands.{differ_at}
use Rattle.uf2_verify.proofs.same_page.Given as goal

abbrev pub invariant-loop-i : goal.invariant-loop-i
invariant-loop-i l = l.same ≡ not (any l.i (differ_at l.a l.b))
