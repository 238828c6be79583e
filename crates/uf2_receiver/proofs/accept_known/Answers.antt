use mathlib.Core.Path.{ap}
use Rattle.laws.proofs.Numbered.{answer_is}
use Rattle.uf2_known.specs.Verdict.{decision}
use Rattle.uf2_receiver.proofs.Laws.{accept_stays, accept_accepts}
use Rattle.uf2_receiver.proofs.accept_known.Goals as goal

pub returns-in-Err : goal.returns-in-Err
returns-in-Err c = accept_stays _ _ _ _ (answer_is c.judge-verdict.ensures) (ap decision c.in-Err.is) c.refuse.ensures

pub returns-in-Ok : goal.returns-in-Ok
returns-in-Ok c =
    let e = c in
    let v = e in
    accept_accepts _ _ _ _ (answer_is v.judge-verdict.ensures) (ap decision v.in-Ok.is) e.enter.ensures
