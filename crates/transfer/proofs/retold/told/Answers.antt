use Rattle.transfer.proofs.retold.told.Goals as goal

pub returns-in-Running : goal.returns-in-Running
returns-in-Running c = rw c.in-Running.is c.deed_answer.ensures
