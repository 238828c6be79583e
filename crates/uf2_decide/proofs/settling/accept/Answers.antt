use Rattle.uf2_decide.proofs.settling.Laws.{accepted_by_lem}
use Rattle.uf2_decide.proofs.settling.accept.Goals as goal

pub returns : goal.returns
returns c = accepted_by_lem _ _ _ c.deed_of-deed.ensures c.doing-accepted.ensures
