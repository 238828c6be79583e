use Rattle.uf2_decide.proofs.deeds.Laws.{stands_nowhere}
use Rattle.uf2_decide.proofs.deeds.stands_at.Goals as goal

pub returns-in-None : goal.returns-in-None
returns-in-None c = stands_nowhere _ _ c.in-None.is

pub returns-in-Some : goal.returns-in-Some
returns-in-Some c = rw c.in-Some.is c.stands_in.ensures
