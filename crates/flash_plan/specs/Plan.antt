-- An arrival whose flash is written by a driver: what is left to do, and that done. Assumes nothing.
use Rattle.std.specs.Prelude.{ℕ, ◌/◌, cond, List}
use Rattle.memory.specs.Bitmap.{marked_in, with_mark}
use Rattle.memory.specs.Flash.{erase_at, payload_of, store_at}
use Rattle.partitions.specs.declared.Settings.{Settings}
use Rattle.transfer.specs.declared.Kind.{Kind}
use Rattle.transfer.specs.declared.Kind.TheVariants.{Flash, MainRam, XipRam}
use Rattle.transfer.specs.declared.Deed.{Deed}
use Rattle.transfer.specs.declared.Deed.TheVariants.{Stores, Notes, Keeps}
use Rattle.arrival.specs.Arrive.{Held, World, Outcome, outcome_number, Decision, stays, accepts, decided, cleared_if, at_of, done}
use Rattle.flash_plan.specs.declared.Plan.{Plan}
use Rattle.flash_plan.specs.declared.Plan.TheVariants.{Nothing, Program, EraseProgram}

-- the deed's number, for C
abbrev pub plan_number : Plan → ℕ
plan_number Nothing = 0
plan_number (Program at) = 1
plan_number (EraseProgram q at) = 2

-- ---- what is planned

-- a page of flash is programmed, in a sector that is erased first where the sector map does not mark it
abbrev pub sector_plan : ℕ → List ℕ → Plan
sector_plan at k = cond (marked_in k (at / 4096)) (Program at) (EraseProgram (at / 4096) at)

-- the plan, and the sector map as it is left, as one value, which the contract names
pub record SectorPaged : Type 0 where
  pub plan : Plan
  pub sectors : List ℕ

abbrev pub sector_paged : Plan → List ℕ → SectorPaged
sector_paged r k = record { plan = r; sectors = k }

-- a page of flash: the plan, and its sector marked
abbrev pub sector_paged_of : ℕ → List ℕ → SectorPaged
sector_paged_of at k = sector_paged (sector_plan at k) (with_mark k (at / 4096))

-- a page of RAM is stored at once, so that nothing is left to do
abbrev pub page_plan : Kind → ℕ → List ℕ → Plan
page_plan Flash at k = sector_plan at k
page_plan MainRam at k = Nothing
page_plan XipRam at k = Nothing

-- a comment and what is kept store nothing
abbrev pub deed_plan : Deed → Kind → ℕ → List ℕ → Plan
deed_plan Stores kind at k = page_plan kind at k
deed_plan Notes kind at k = Nothing
deed_plan Keeps kind at k = Nothing

-- of what an arrival comes to; k is the sector map as it was lent. "Refusals, comments, kept and RAM blocks plan nothing."
abbrev pub decision_plan : Decision → List ℕ → Plan
decision_plan (stays x) k = Nothing
decision_plan (accepts p d t) k = deed_plan d p.head.kind (at_of p.body) (cleared_if t.clears k)

-- ---- the plan performed on a flash

abbrev pub performed : Plan → List ℕ → List ℕ → List ℕ
performed Nothing payload f = f
performed (Program at) payload f = store_at f at payload
performed (EraseProgram q at) payload f = store_at (erase_at f q) at payload

-- ---- one arrival

-- the same world, with this flash
abbrev pub with_flash : List ℕ → World → World
with_flash f w =
    record {
      transfer = w.transfer;
      seen = w.seen;
      held = record { flash = f; sectors = w.held.sectors; main = w.held.main; xip = w.held.xip };
    }

-- the same outcome, with this flash
abbrev pub outcome_with : List ℕ → Outcome → Outcome
outcome_with f o = record { world = with_flash f o.world; answer = o.answer; discarded = o.discarded }

-- what an arrival hands back whose flash is left to a driver
pub record Accepting : Type 0 where
  pub outcome : Outcome
  pub plan : Plan

-- the number of its answer
abbrev pub accepting_number : Accepting → ℕ
accepting_number x = outcome_number x.outcome

-- of what it comes to: transfer, maps and RAM as the take leaves them, the flash as it was lent, and the plan
unfoldable pub accepting_by : World → List ℕ → Decision → Accepting
accepting_by w a d = record { outcome = outcome_with w.held.flash (done w (payload_of a) d); plan = decision_plan d w.held.sectors }

-- one arrival, accepted
unfoldable pub accepting_of : Settings → World → List ℕ → Accepting
accepting_of s w a = accepting_by w a (decided s w a)

-- what stands once the plan is performed
abbrev pub performed_on : World → List ℕ → Accepting → Outcome
performed_on w a x = outcome_with (performed x.plan (payload_of a) w.held.flash) x.outcome
