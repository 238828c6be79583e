-- What each call for arrivals answers and leaves. Assumes nothing.
use Rattle.std.specs.Prelude.{ℕ, ◌*◌, ◌/◌, Bool, cond, List, ◌++◌, eqb, length}
use Rattle.transfer.specs.Transfer.{number_of}
use Rattle.transfer.specs.declared.State.{State}
use Rattle.arrival.specs.Arrive.{Lent, lent_of, Outcome, receive_of, Forecast, look_of}
use Rattle.flash_plan.specs.declared.Plan.{Plan}
use Rattle.flash_plan.specs.declared.Plan.TheVariants.{Nothing, Program, EraseProgram}
use Rattle.flash_plan.specs.Plan.{plan_number, Accepting, accepting_of}
use Rattle.uf2_receiver.specs.Receiver.{Slice, world}
use Rattle.transfer_layout.specs.Results.{result_of, is_acceptance}
use Rattle.uf2_batch.specs.Batch.{BatchEnd, batch_of}
use Rattle.uf2_block.specs.Write.{le32}
use Rattle.settings_layout.specs.Layout.{settings_from, transfer_from, with_transfer}

-- ---- one arrival

-- what is returned, and what the lent buffers hold
pub record ArrivalCall : Type 0 where
  pub result : ℕ
  pub transfer : List ℕ
  pub lent : Lent

-- all of them as one value, which the contract names
abbrev pub arrival_call : ℕ → List ℕ → Lent → ArrivalCall
arrival_call n t h = record { result = n; transfer = t; lent = h }

-- what a look returns of a forecast: what a take would return
abbrev pub look_result : Forecast → ℕ
look_result o = result_of (number_of o.answer) o.discarded

-- bytes of settings and transfer, arrival, and what is lent
unfoldable pub look_bytes : List ℕ → List ℕ → List ℕ → Lent → ℕ
look_bytes s t a h = look_result (look_of (settings_from s) (world (transfer_from t) h) a)

-- the same of the slices that the call is lent, which the contract names
abbrev pub look_call_of : Slice → Slice → Slice → Lent → ℕ
look_call_of s t a h = look_bytes s t a h

-- the bytes of the next transfer where a block was accepted; answers 1 to 13 leave them as they were lent
abbrev pub kept_transfer : List ℕ → Bool → State → List ℕ
kept_transfer t accepted next = cond accepted (with_transfer t next) t

-- what a call returns and leaves of an arrival that comes to o; t is the transfer's bytes as they were lent
abbrev pub arrival_call_of : List ℕ → Outcome → ArrivalCall
arrival_call_of t o =
    arrival_call (result_of (number_of o.answer) o.discarded)
    (kept_transfer t (is_acceptance (number_of o.answer)) o.world.transfer)
    (lent_of o.world)

-- bytes of settings and transfer, arrival, and what is lent
unfoldable pub take_bytes : List ℕ → List ℕ → List ℕ → Lent → ArrivalCall
take_bytes s t a h = arrival_call_of t (receive_of (settings_from s) (world (transfer_from t) h) a)

-- the same of the slices that the call is lent, and what it returns and leaves, which the contract names
abbrev pub take_call_of : Slice → Slice → Slice → Lent → ArrivalCall
take_call_of s t a h = take_bytes s t a h

abbrev pub take_return : ℕ → Slice → Lent → ArrivalCall
take_return n t h = arrival_call n t h

-- ---- one arrival, with a plan for the flash

-- three numbers of 32 bits: the deed's, where its sector begins and where its page does
abbrev pub plan_words : ℕ → ℕ → ℕ → List ℕ
plan_words d q p = (le32 d ++ le32 q) ++ le32 p

-- the numbers of a plan, all 0 where nothing is planned
abbrev pub plan_sector : Plan → ℕ
plan_sector Nothing = 0
plan_sector (Program at) = at / 4096 * 4096
plan_sector (EraseProgram q at) = q * 4096

abbrev pub plan_page : Plan → ℕ
plan_page Nothing = 0
plan_page (Program at) = at
plan_page (EraseProgram q at) = at

abbrev pub plan_bytes : Plan → List ℕ
plan_bytes x = plan_words (plan_number x) (plan_sector x) (plan_page x)

-- what is returned, what the lent buffers hold, and the plan's 12 bytes
pub record PlannedCall : Type 0 where
  pub arrival : ArrivalCall
  pub plan : List ℕ

-- all of them as one value, which the contract names
abbrev pub planned_call : ℕ → List ℕ → Lent → List ℕ → PlannedCall
planned_call n t h p = record { arrival = arrival_call n t h; plan = p }

-- what a call returns and leaves of an arrival that is accepted so; t is the transfer's bytes as they were lent
abbrev pub planned_call_of : List ℕ → Accepting → PlannedCall
planned_call_of t x = record { arrival = arrival_call_of t x.outcome; plan = plan_bytes x.plan }

-- bytes of settings and transfer, arrival, what is lent, and the plan's bytes as they were lent. Where they are not 12 the answer is 1, and
-- nothing changes: a plan that nobody gets would be a page that nobody writes
unfoldable pub accept_bytes : List ℕ → List ℕ → List ℕ → Lent → List ℕ → PlannedCall
accept_bytes s t a h p = cond (eqb (length p) 12) (planned_call_of t (accepting_of (settings_from s) (world (transfer_from t) h) a)) (planned_call 1 t h p)

-- the same of the slices that the call is lent, and what it returns and leaves, which the contract names
abbrev pub accept_call_of : Slice → Slice → Slice → Lent → Slice → PlannedCall
accept_call_of s t a h p = accept_bytes s t a h p

abbrev pub accept_return : ℕ → Slice → Lent → Slice → PlannedCall
accept_return n t h p = planned_call n t h p

-- ---- arrivals one after the other

-- how many were received, and what the lent buffers hold
pub record BatchCall : Type 0 where
  pub number : ℕ
  pub transfer : List ℕ
  pub results : List ℕ
  pub lent : Lent

-- all of them as one value, which the contract names
abbrev pub batch_call : ℕ → List ℕ → List ℕ → Lent → BatchCall
batch_call n t r h = record { number = n; transfer = t; results = r; lent = h }

-- what a call returns and leaves of arrivals that come to e; t is the transfer's bytes as they were lent
abbrev pub batch_call_end : List ℕ → BatchEnd → BatchCall
batch_call_end t e = batch_call e.number (kept_transfer t e.accepted e.world.transfer) e.results (lent_of e.world)

-- bytes of settings and transfer, arrivals, results, and what is lent
unfoldable pub take_batch : List ℕ → List ℕ → List ℕ → List ℕ → Lent → BatchCall
take_batch s t a r h = batch_call_end t (batch_of (settings_from s) (world (transfer_from t) h) a r)

-- the same of the slices that the call is lent, and what it returns and leaves, which the contract names
abbrev pub batch_call_of : Slice → Slice → Slice → Slice → Lent → BatchCall
batch_call_of s t a r h = take_batch s t a r h

abbrev pub batch_return : ℕ → Slice → Slice → Lent → BatchCall
batch_return n t r h = batch_call n t r h
