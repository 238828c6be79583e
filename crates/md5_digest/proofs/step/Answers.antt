use native.Mathlib.Omega.{arith}
use Rattle.md5_digest.proofs.Laws.{step_f, step_g, step_h, step_i}
use Rattle.md5_digest.proofs.step.Goals as goal

pub returns-then-this-eq0 : goal.returns-then-this-eq0
returns-then-this-eq0 g c = step_f _ _ c.args.s (omega arith) c.mix_f.ensures c.operation.ensures

pub returns-then-this-eq1 : goal.returns-then-this-eq1
returns-then-this-eq1 g c = step_g _ _ c.args.s (omega arith) (omega arith) c.mix_g.ensures c.operation-then-this-eq1.ensures

pub returns-then-this-eq2 : goal.returns-then-this-eq2
returns-then-this-eq2 g c = step_h _ _ c.args.s (omega arith) (omega arith) c.mix_h.ensures c.operation-then-this-eq2.ensures

pub returns : goal.returns
returns g c = step_i _ _ c.args.s (omega arith) c.mix_i.ensures c.operation-2.ensures
