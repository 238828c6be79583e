use Prim.Native.Nat.{◌/◌}
use mathlib.Core.Path.{◌≡◌, sym, ap, ◌∙◌}
use native.Mathlib.Omega.{arith}
use lib.ListN.{length}
use Rattle.region_checking.proofs.Laws.{turn_zero, turn_more}
use Rattle.region_checking.proofs.turns.each_piece.Goals as goal

pub loop-k-init : goal.loop-k-init
loop-k-init g c = λ S law. sym (turn_zero S _)

pub loop-k-preserved : goal.loop-k-preserved
loop-k-preserved g c =
    let k = c.loop-k.k in
    λ S law. law k _ _ c.loop-k-test.true c.one.ensures ∙ ap (S k) (c.loop-k.invariant S law) ∙ sym (turn_more S _ k)

pub returns : goal.returns
returns g c = let e : c.loop-k.k ≡ length c.args.file.now / 512 = omega arith in λ S law. rw e at (c.loop-k.invariant S law)
