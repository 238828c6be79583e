use mathlib.Core.Path.{◌≡◌, ap, sym}
use Rattle.transfer.specs.declared.State.{State}
use Rattle.transfer.specs.declared.Transfer.{Transfer}
use Rattle.uf2_commit.proofs.receipts.same_transfer.Goals as goal

transfer-is : {t : Transfer} {x : State} → t.state ≡ x → record { state = x } ≡ t
transfer-is e = ap (λ (x : State). record { state = x }) (sym e)

pub returns-in-Idle : goal.returns-in-Idle
returns-in-Idle c = transfer-is c.in-Idle.is

pub returns-in-Running : goal.returns-in-Running
returns-in-Running c = rw c.same_head-head.ensures (transfer-is c.in-Running.is)

pub returns-in-Done : goal.returns-in-Done
returns-in-Done c = rw c.same_head.ensures (transfer-is c.in-Done.is)
