use native.Mathlib.Omega.{arith}
use Rattle.uf2_verify.proofs.Laws.{none_yet, one_more, all_read}
use Rattle.uf2_verify.proofs.same_page.Goals as goal

pub loop-i-init : goal.loop-i-init
loop-i-init c = none_yet c.args.a.now c.args.b.now

pub loop-i-preserved : goal.loop-i-preserved
loop-i-preserved c = one_more c.args.a.now c.args.b.now c.loop-i.i c.loop-i.invariant

pub returns : goal.returns
returns c = all_read c.args.a.now c.args.b.now c.loop-i.i (omega arith) c.loop-i.invariant
