use mathlib.Core.Path.{refl, ◌∙◌}
use Rattle.uf2_receiver.proofs.KnownLaws.{accept_is}
use Rattle.call_bytes.proofs.Laws.{accept_short, accept_ran}
use Rattle.call_bytes.proofs.plans.Laws.{plan_whole}
use Rattle.acceptapi.proofs.uf2_accept.Goals as goal

pub returns-then-plan-ne-PLAN : goal.returns-then-plan-ne-PLAN
returns-then-plan-ne-PLAN c = accept_short _ _ _ _ _ c.if-plan-ne-PLAN.true

pub returns : goal.returns
returns c =
    let k = c.known_from-known.ensures in
    let long = c.if-plan-ne-PLAN.false in
    let told = c.hand_back.ensures in
    accept_ran _ _ _ _ _ long refl c.read_transfer-t.ensures (c.accept_known-r.ensures ∙ accept_is _ _ _ (k.value, k.low)) refl told.kept told.value (told.told ∙ plan_whole c.args.plan.now c.accept_known-r.result.plan long)
