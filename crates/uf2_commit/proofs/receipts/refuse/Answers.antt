use mathlib.Core.Path.{ap}
use Rattle.transfer.specs.declared.Transfer.{Transfer}
use Rattle.uf2_commit.specs.Receipts.{unplanned}
use Rattle.uf2_commit.proofs.receipts.refuse.Goals as goal

pub returns : goal.returns
returns c = ap (λ (t : Transfer). unplanned t c.args.answer) c.same_transfer-same.ensures
