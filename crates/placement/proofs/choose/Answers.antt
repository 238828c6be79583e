use mathlib.Core.Path.{◌≡◌, sym, ◌∙◌}
use native.Mathlib.Omega.{arith}
use Rattle.placement.specs.Place.{in_pass, chosen}
use Rattle.placement.proofs.First.{first_zero, first_more, first_hit, if_taken, if_passed}
use Rattle.placement.proofs.choose.Goals as goal

pub loop-pass-init : goal.loop-pass-init
loop-pass-init c = first_zero _

pub loop-i-init : goal.loop-i-init
loop-i-init c = first_zero _

pub loop-i-preserved : goal.loop-i-preserved
loop-i-preserved c = first_more _ _ c.loop-i.invariant (if_passed _ _ _ _ (sym c.takes.ensures ∙ c.if-takes.false))

pub loop-pass-preserved : goal.loop-pass-preserved
unfolding in_pass
loop-pass-preserved c =
    let e : c.loop-i.i ≡ c.args.n = omega arith in
    first_more _ _ c.loop-pass.invariant (rw e at c.loop-i.invariant)

pub returns-then-takes : goal.returns-then-takes
unfolding chosen in_pass
returns-then-takes c =
    sym
    (first_hit _ 4 _ c.loop-pass-test.true c.loop-pass.invariant
    (first_hit _ _ _ c.loop-i-test.true c.loop-i.invariant
    (if_taken _ _ _ _ (sym c.takes.ensures ∙ c.if-takes.true))))

pub returns-after-loop-pass : goal.returns-after-loop-pass
unfolding chosen
returns-after-loop-pass c = let e : c.loop-pass.pass ≡ 4 = omega arith in sym (rw e at c.loop-pass.invariant)
