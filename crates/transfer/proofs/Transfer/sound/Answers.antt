use Rattle.transfer.specs.Transfer.{good_state}
use Rattle.transfer.proofs.Transfer.sound.Goals as goal

pub returns-in-Idle : goal.returns-in-Idle
unfolding good_state
returns-in-Idle c = rw c.in-Idle.is

pub returns-in-Running : goal.returns-in-Running
unfolding good_state
returns-in-Running c = rw c.in-Running.is

pub returns-in-Done : goal.returns-in-Done
unfolding good_state
returns-in-Done c = rw c.in-Done.is
