-- A page of flash planned, and the plan performed. Assumes nothing.
use mathlib.Core.Path.{◌≡◌, refl, sym, ap, ◌∙◌}
use mathlib.Core.Bool.{Bool, true, false, cond}
use mathlib.Core.List.{List}
use Prim.Native.Nat.{ℕ, ◌/◌}
use Rattle.memory.specs.Bitmap.{marked_in, with_mark}
use Rattle.memory.specs.Flash.{erase_at, payload_of, store_at}
use Rattle.transfer.specs.declared.Kind.{Kind}
use Rattle.transfer.specs.declared.Kind.TheVariants.{Flash, MainRam, XipRam}
use Rattle.transfer.specs.declared.Deed.{Deed}
use Rattle.transfer.specs.declared.Deed.TheVariants.{Stores, Notes, Keeps}
use Rattle.arrival.specs.Arrive.{Held, World, Decision, stays, accepts, wiped_if, prepared_at, paged_at, at_of, done_to, accept_of, done}
use Rattle.flash_plan.specs.declared.Plan.{Plan}
use Rattle.flash_plan.specs.declared.Plan.TheVariants.{Nothing, Program, EraseProgram}
use Rattle.flash_plan.specs.Plan.{sector_paged, sector_paged_of, deed_plan, performed, outcome_with, accepting_by, performed_on}

-- ---- a page of flash

module _ (at : ℕ) (k : List ℕ) {b : Bool} (e : b ≡ marked_in k (at / 4096)) {k1 : List ℕ} (m : k1 ≡ with_mark k (at / 4096)) where
  pub sector_erased : b ≡ true → sector_paged (Program at) k1 ≡ sector_paged_of at k
  sector_erased h = let z : marked_in k (at / 4096) ≡ true = sym e ∙ h in rw (z, m)

  pub sector_new : b ≡ false → sector_paged (EraseProgram (at / 4096) at) k1 ≡ sector_paged_of at k
  sector_new h = let z : marked_in k (at / 4096) ≡ false = sym e ∙ h in rw (z, m)

-- ---- the plan performed gives the take's flash, and all else is the take's

performed_sector : (b : Bool) (at : ℕ) (p f : List ℕ) → performed (cond b (Program at) (EraseProgram (at / 4096) at)) p f ≡ store_at (cond b f (erase_at f (at / 4096))) at p
performed_sector true at p f = refl
performed_sector false at p f = refl

performed_deed : (d : Deed) (kind : Kind) (at : ℕ) (p : List ℕ) (h : Held) → performed (deed_plan d kind at h.sectors) p h.flash ≡ (done_to d kind at p h).flash
unfolding paged_at prepared_at
performed_deed Stores Flash at p h = performed_sector (marked_in h.sectors (at / 4096)) at p h.flash
performed_deed Stores MainRam at p h = refl
performed_deed Stores XipRam at p h = refl
performed_deed Notes kind at p h = refl
performed_deed Keeps kind at p h = refl

-- of whatever an arrival comes to
pub performs_by : (w : World) (a : List ℕ) (d : Decision) → performed_on w a (accepting_by w a d) ≡ done w (payload_of a) d
unfolding accepting_by done accept_of wiped_if
performs_by w a (stays x) = refl
performs_by w a (accepts p d t) =
    ap (λ (f : List ℕ). outcome_with f (done w (payload_of a) (accepts p d t)))
    (performed_deed d p.head.kind (at_of p.body) (payload_of a) (wiped_if t.clears w.held))
