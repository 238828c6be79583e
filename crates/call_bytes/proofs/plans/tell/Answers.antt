use mathlib.Core.Path.{sym, ◌∙◌}
use Rattle.call_bytes.proofs.plans.Laws.{plan_put, plan_whole, plan_other}
use Rattle.call_bytes.proofs.plans.tell.Goals as goal

pub returns-then-bytes-ne-PLAN : goal.returns-then-bytes-ne-PLAN
returns-then-bytes-ne-PLAN c =
    let x = c.args in
    sym (plan_other x.bytes.now x.plan c.if-bytes-ne-PLAN.true)

pub returns : goal.returns
returns c =
    let long = c.if-bytes-ne-PLAN.false in
    let x = c.args in
    c.put-3.ensures
    ∙ rw (c.put-2.ensures, c.put.ensures) (plan_put x.bytes.now _ _ _ long)
    ∙ c.numbers-w.ensures
    ∙ sym (plan_whole x.bytes.now x.plan long)
