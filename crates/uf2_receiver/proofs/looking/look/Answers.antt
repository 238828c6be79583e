use mathlib.Core.Path.{ap, ◌∙◌}
use Rattle.laws.specs.Numbered.{numbered}
use Rattle.arrival.specs.Arrive.{forecast_number}
use Rattle.laws.proofs.Numbered.{answer_is}
use Rattle.uf2_known.specs.Verdict.{decision}
use Rattle.uf2_receiver.proofs.looking.Laws.{look_stays, look_accepts, look_is}
use Rattle.uf2_receiver.proofs.looking.look.Goals as goal

pub returns-in-Err : goal.returns-in-Err
returns-in-Err c =
    let d = c in
    let known = look_is _ _ _ (d.known_of-known.ensures.value, d.known_of-known.ensures.low) in
    ap (numbered forecast_number) (look_stays _ _ _ _ (answer_is d.judge-verdict.ensures) (ap decision c.in-Err.is) ∙ known)

pub returns-in-Ok : goal.returns-in-Ok
returns-in-Ok c =
    let d = c in
    let known = look_is _ _ _ (d.known_of-known.ensures.value, d.known_of-known.ensures.low) in
    ap (numbered forecast_number) (look_accepts _ _ _ _ (answer_is d.judge-verdict.ensures) (ap decision c.in-Ok.is) ∙ known)
