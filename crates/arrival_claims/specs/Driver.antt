-- What a driver may rely on, over every list of arrivals and whatever settings each finds. Proved in proofs/Driver.antt. Assumes nothing.
use Rattle.std.specs.Prelude.{ℕ, ◌/◌, ◌≡◌, Bool, true, false, ◌&&◌, ◌||◌, not, List, [], ◌∷◌, eqb, leb}
use Rattle.partitions.specs.declared.Settings.{Settings}
use Rattle.transfer.specs.Transfer.{number_of}
use Rattle.transfer.specs.declared.State.{State}
use Rattle.transfer.specs.declared.State.TheVariants.{Idle, Running, Done}
use Rattle.arrival.specs.Arrive.{World, receive_of}
use Rattle.arrival.specs.Lists.{Delivery}
use Rattle.flash_plan.specs.declared.Plan.{Plan}
use Rattle.flash_plan.specs.declared.Plan.TheVariants.{Nothing, Program, EraseProgram}
use Rattle.flash_plan.specs.Plan.{accepting_of}

-- what a driver sees of an arrival: whether a transfer begins with its block, and the plan
pub record Sight : Type 0 where
  pub begins : Bool
  pub plan : Plan

abbrev pub is_idle : State → Bool
is_idle Idle = true
is_idle (Running r) = false
is_idle (Done g) = false

-- a transfer begins with a block that is accepted where there was none, or that discarded one
abbrev pub begins_with : Settings → World → List ℕ → Bool
begins_with s w a = leb 14 (number_of (receive_of s w a).answer) && (is_idle w.transfer || (receive_of s w a).discarded)

abbrev pub sight_of : Settings → World → List ℕ → Sight
sight_of s w a = record { begins = begins_with s w a; plan = (accepting_of s w a).plan }

-- of each arrival of a list
unfoldable pub sights_of : World → List Delivery → List Sight
sights_of w [] = []
sights_of w (t ∷ l) = sight_of t.settings w t.arrival ∷ sights_of (receive_of t.settings w t.arrival).world l

-- ---- the sectors erased in this transfer, by what the driver saw alone

-- a plan erases sector q
abbrev pub erases : Plan → ℕ → Bool
erases Nothing q = false
erases (Program at) q = false
erases (EraseProgram p at) q = eqb q p

-- of those erased before an arrival, the ones that count in its transfer
abbrev pub still_erased : (ℕ → Bool) → Sight → ℕ → Bool
still_erased E x q = not x.begins && E q

abbrev pub erased_after : (ℕ → Bool) → Sight → ℕ → Bool
erased_after E x q = still_erased E x q || erases x.plan q

-- "a sector is planned to be erased at most once in a transfer and before any page of it; a page is planned only into a sector that was
-- erased in this transfer"
abbrev pub Allowed : (ℕ → Bool) → Plan → Type 0
Allowed E Nothing = Unit {0}
Allowed E (Program at) = E (at / 4096) ≡ true
Allowed E (EraseProgram q at) = (E q ≡ false) × (q ≡ at / 4096)

unfoldable pub Obeys : (ℕ → Bool) → List Sight → Type 0
Obeys E [] = Unit {0}
Obeys E (x ∷ l) = Allowed (still_erased E x) x.plan × Obeys (erased_after E x) l

-- from a transfer that has not begun, whatever the buffers
abbrev pub ErasedOnceAndFirst : Type 0
ErasedOnceAndFirst = (w : World) (l : List Delivery) → is_idle w.transfer ≡ true → Obeys (λ q. false) (sights_of w l)
