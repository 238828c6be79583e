-- What an arrival hands back, as the meaning has it. Assumes nothing.
use Rattle.std.specs.Prelude.{ℕ, false, List}
use Rattle.transfer.specs.declared.Answer.{Answer}
use Rattle.transfer.specs.declared.Transfer.{Transfer}
use Rattle.transfer.specs.declared.Accepted.{Accepted}
use Rattle.arrival.specs.Arrive.{Lent, Outcome}
use Rattle.arrival.specs.Lending.{world}
use Rattle.uf2_known.specs.declared.Acceptance.{Acceptance}
use Rattle.flash_plan.specs.Plan.{Accepting}
use Rattle.flash_plan.specs.declared.Plan.TheVariants.{Nothing}
use Rattle.uf2_commit.specs.Entering.{Beside, Entering, entering, entering_of}
use Rattle.uf2_commit.specs.declared.receipts.Receipt.{Receipt}
use Rattle.uf2_commit.specs.declared.receipts.PlanReceipt.{PlanReceipt}

-- "Answers 1 to 13 change nothing, "discarded" is no."
abbrev pub refusal : Transfer → Answer → Receipt
refusal t a = record { transfer = t; answer = a; discarded = false }

-- and nothing is planned
abbrev pub unplanned : Transfer → Answer → PlanReceipt
unplanned t a = record { receipt = refusal t a; plan = Nothing }

-- of a block that is accepted: what it does to the transfer
abbrev pub receipt_of : Accepted → Receipt
receipt_of y = record { transfer = y.transfer; answer = y.answer; discarded = y.discarded }

-- what is returned, with the buffers as they are left
abbrev pub outcome : Receipt → Lent → Outcome
outcome r h = record { world = world r.transfer h; answer = r.answer; discarded = r.discarded }

-- what is returned beside them
abbrev pub accepting : PlanReceipt → Lent → Accepting
accepting r h = record { outcome = outcome r.receipt h; plan = r.plan }

-- what is returned of a block that is entered, with the seen map and all else beside the flash as they are left
abbrev pub enter_return : PlanReceipt → List ℕ → Beside → Receipt × Entering
enter_return r seen b = (r.receipt, entering r.plan seen b)

-- of a block that is accepted: what it does to the transfer, and what it writes beside the flash
abbrev pub enter_of : Acceptance → List ℕ → List ℕ → Beside → Receipt × Entering
enter_of y payload seen b = (receipt_of y.accepted, entering_of y.placed y.deed y.accepted payload seen b)
