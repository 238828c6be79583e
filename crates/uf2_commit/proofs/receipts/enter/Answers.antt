use mathlib.Core.Path.{◌≡◌, ap}
use Rattle.uf2_commit.specs.Entering.{Entering}
use Rattle.uf2_commit.specs.declared.receipts.Receipt.{Receipt}
use Rattle.uf2_commit.proofs.receipts.enter.Goals as goal

beside-receipt : (r : Receipt) {x y : Entering} → x ≡ y → ◌≡◌ {A = Receipt × Entering} (r, x) (r, y)
beside-receipt r e = ap (λ (z : Entering). (r, z)) e

pub returns : goal.returns
returns c = beside-receipt _ c.enter-plan.ensures
