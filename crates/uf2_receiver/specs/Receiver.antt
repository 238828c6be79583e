-- What a call is lent and hands back, as the meaning has it. Assumes nothing.
use Rattle.std.specs.Prelude.{ℕ, List}
use Rattle.memory.specs.Flash.{payload_of}
use Rattle.laws.specs.Numbered.{numbered}
use Rattle.arrival.specs.Arrive.{Lent, World, Outcome, outcome_number, done}
pub use Rattle.arrival.specs.Lending.{held, lent, Slice, lent_at, left_at, world}
use Rattle.uf2_known.specs.Verdict.{known_decision}
use Rattle.uf2_known.specs.declared.Known.{Known}
use Rattle.flash_plan.specs.Plan.{Accepting, accepting_number, accepting_by}
use Rattle.uf2_commit.specs.declared.receipts.Receipt.{Receipt}
use Rattle.uf2_commit.specs.declared.receipts.PlanReceipt.{PlanReceipt}
pub use Rattle.uf2_commit.specs.Receipts.{outcome, accepting}

-- ---- what comes out

-- the buffers as they are left, where the flash is lent for reading only
abbrev pub left_beside : Slice → Slice → Slice → Slice → Slice → Lent
left_beside f m k u x = lent f m k u x

-- what a take returns and leaves, its answer beside its number
abbrev pub take_return : Receipt → Lent → Outcome × ℕ
take_return r h = numbered outcome_number (outcome r h)

-- and an acceptance
abbrev pub planned_return : PlanReceipt → Lent → Accepting × ℕ
planned_return r h = numbered accepting_number (accepting r h)

-- ---- one arrival, where what the settings and the lengths say of it is handed in

-- with what they truly say it is `receive_of` (proofs/KnownLaws.antt)
unfoldable pub receive_known : Known → World → List ℕ → Outcome
receive_known k w a = done w (payload_of a) (known_decision k w a)

-- and this is `accepting_of`
unfoldable pub accept_known : Known → World → List ℕ → Accepting
accept_known k w a = accepting_by w a (known_decision k w a)
