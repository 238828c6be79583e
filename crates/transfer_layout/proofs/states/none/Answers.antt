use mathlib.Core.Path.{ap}
use Rattle.transfer.specs.Transfer.{running}
use Rattle.transfer.specs.declared.Head.{Head}
use Rattle.transfer_layout.proofs.states.none.Goals as goal

pub returns : goal.returns
returns c = ap (λ (h : Head). running h 0) c.new-head.ensures
