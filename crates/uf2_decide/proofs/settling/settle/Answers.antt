use Rattle.laws.proofs.Numbered.{answer_is}
use Rattle.uf2_decide.proofs.settling.Laws.{settled_stays, settled_accepts}
use Rattle.uf2_decide.proofs.settling.settle.Goals as goal

pub returns-in-Err : goal.returns-in-Err
returns-in-Err c = settled_stays _ c.args.placed _ _ c.marked-marked.ensures (answer_is c.step-trial.ensures) c.in-Err.is

pub returns-in-Ok : goal.returns-in-Ok
returns-in-Ok c =
    let trial = c in
    let stepped = trial in
    settled_accepts _ _ _ _ stepped.marked-marked.ensures (answer_is stepped.step-trial.ensures) trial.in-Ok.is c.accept.ensures
