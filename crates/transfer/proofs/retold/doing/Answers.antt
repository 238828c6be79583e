use Rattle.transfer.proofs.retold.doing.Goals as goal

pub returns : goal.returns
returns c = rw c.told-answer.ensures
