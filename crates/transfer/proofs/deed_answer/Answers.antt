use Rattle.transfer.proofs.deed_answer.Goals as goal

pub returns-in-Stores : goal.returns-in-Stores
returns-in-Stores c = rw c.in-Stores.is

pub returns-in-Notes : goal.returns-in-Notes
returns-in-Notes c = rw c.in-Notes.is

pub returns-in-Keeps : goal.returns-in-Keeps
returns-in-Keeps c = rw c.in-Keeps.is
