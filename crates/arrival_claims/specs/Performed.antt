-- A plan performed gives the take's flash, and all else is the take's; what a plan touches. Proved in proofs/Claims.antt. Assumes nothing.
use Rattle.std.specs.Prelude.{ℕ, ◌+◌, ◌*◌, ◌/◌, ◌%◌, ◌≤◌, ◌≡◌, Bool, false, ◌&&◌, ◌||◌, List, [], ◌∷◌, eqb, ltb, leb, length, Some}
use Rattle.uf2_block.specs.Block.{field_at}
use Rattle.partitions.specs.declared.Settings.{Settings}
use Rattle.placement.specs.Place.{place_of, place_from}
use Rattle.arrival.specs.Arrive.{World, Outcome, receive_of}
use Rattle.arrival_claims.specs.Bounds.{Outside}
use Rattle.arrival.specs.Lists.{receive_all}
use Rattle.flash_plan.specs.declared.Plan.{Plan}
use Rattle.flash_plan.specs.declared.Plan.TheVariants.{Nothing, Program, EraseProgram}
use Rattle.flash_plan.specs.Plan.{accepting_of, performed_on}

-- ---- accept and perform

-- an arrival accepted, and its plan performed
abbrev pub performed_of : Settings → World → List ℕ → Outcome
performed_of s w a = performed_on w a (accepting_of s w a)

-- "for every settings, world and arrival, the plan performed on the flash gives the take's flash, byte for byte, and all else is the take's"
abbrev pub PerformedIsTaken : Type 0
PerformedIsTaken = (s : Settings) (w : World) (a : List ℕ) → performed_of s w a ≡ receive_of s w a

-- one after the other
unfoldable pub perform_all : Settings → World → List (List ℕ) → World
perform_all s w [] = w
perform_all s w (a ∷ l) = perform_all s (performed_of s w a).world l

-- "over every list, accept and perform, one after the other, is `receive_all`", so that what is proved of lists of takes holds of it
abbrev pub AllPerformedAreTaken : Type 0
AllPerformedAreTaken = (s : Settings) (w : World) (l : List (List ℕ)) → perform_all s w l ≡ receive_all s w l

-- ---- what a plan touches

-- where a planned page lies: at a multiple of 256, and within the place of the arrival's family, which is whole sectors of the flash
pub record Lies (s : Settings) (w : World) (a : List ℕ) (at : ℕ) : Type 0 where
  pub aligned : at % 256 ≡ 0
  pub start : ℕ
  pub size : ℕ
  pub place : place_of s (length w.held.flash) (field_at a 28) ≡ Some (place_from start size)
  pub sectors : (start % 4096 ≡ 0) × (size % 4096 ≡ 0)
  pub from : start ≤ at
  pub to : at + 256 ≤ start + size
  pub within : start + size ≤ length w.held.flash
  pub flash : length w.held.flash ≤ 33554432

-- "A plan lies in the flash: its sector and page fit, the page is 256-aligned, the sector is the page's."
abbrev pub PlanLies : Settings → World → List ℕ → Plan → Type 0
PlanLies s w a Nothing = Unit {0}
PlanLies s w a (Program at) = Lies s w a at
PlanLies s w a (EraseProgram q at) = Lies s w a at × (q ≡ at / 4096)

abbrev pub PlansLie : Type 0
PlansLie = (s : Settings) (w : World) (a : List ℕ) → PlanLies s w a (accepting_of s w a).plan

-- byte j is one of the page, or of the sector that is erased
abbrev pub in_page : ℕ → ℕ → Bool
in_page at j = leb at j && ltb j (at + 256)

abbrev pub touches : Plan → ℕ → Bool
touches Nothing j = false
touches (Program at) j = in_page at j
touches (EraseProgram q at) j = eqb (j / 4096) q || in_page at j

-- "no plan touches a byte outside the place"
abbrev pub NothingOutside : Type 0
NothingOutside =
    (s : Settings) (w : World) (a : List ℕ) (j : ℕ) → Outside (place_of s (length w.held.flash) (field_at a 28)) j
    → touches (accepting_of s w a).plan j ≡ false
