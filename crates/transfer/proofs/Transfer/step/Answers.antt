use Rattle.std.specs.Prelude.{Ok}
use Rattle.transfer.specs.Transfer.{step_of, step_number}
use mathlib.Core.Path.{ap}
use Rattle.laws.specs.Numbered.{numbered}
use Rattle.transfer.proofs.Transfer.step.Goals as goal

pub returns-in-Idle : goal.returns-in-Idle
unfolding step_of
returns-in-Idle c = rw c.in-Idle.is (ap (numbered step_number) (ap Ok c.accept.ensures))

pub returns-in-Running : goal.returns-in-Running
unfolding step_of
returns-in-Running c = rw c.in-Running.is (ap (numbered step_number) c.go_on.ensures)

pub returns-in-Done : goal.returns-in-Done
unfolding step_of
returns-in-Done c = rw c.in-Done.is
