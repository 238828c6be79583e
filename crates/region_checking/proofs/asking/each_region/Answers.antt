use Prim.Native.Nat.{◌/◌}
use mathlib.Core.Path.{◌≡◌, refl}
use native.Mathlib.Omega.{arith}
use lib.ListN.{length}
use Rattle.std.proofs.lemmas.Result.{err_from_is_err_and}
use Rattle.laws.proofs.Laws.{any_zero, any_more}
use Rattle.region_checking.proofs.Laws.{roomy_same, asked_right, regions_told, regions_none}
use Rattle.region_checking.proofs.asking.each_region.Goals as goal

pub loop-i-init : goal.loop-i-init
loop-i-init c = (any_zero _, c.requires.noted)

pub ask-requires-clause-room : goal.ask-requires-clause-room
ask-requires-clause-room c = roomy_same _ _ _ c.requires.roomy c.loop-i.auto.cells c.loop-i.auto.image

pub returns-in_err-ask : goal.returns-in_err-ask
returns-in_err-ask c =
    let p = err_from_is_err_and c.from_residual.result c.from_residual.ensures.1 in
    rw (p.1, p.2) (regions_told _ _ _ c.loop-i-test.true c.loop-i.invariant.0 c.in_err-ask.ensures.value refl)

pub loop-i-preserved : goal.loop-i-preserved
loop-i-preserved c = (any_more _ _ c.loop-i.invariant.0 (asked_right _ _ _ c.in_ok-ask.ensures.value refl), c.in_ok-ask.ensures.left)

pub returns : goal.returns
returns c =
    let at = c.loop-i in
    let e : at.i ≡ length c.args.file.now / 512 = omega arith in
    regions_none _ _ (rw e at at.invariant.0)
