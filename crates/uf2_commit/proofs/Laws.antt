-- A block entered: what the code writes is what the meaning has. Assumes nothing.
use mathlib.Core.Path.{◌≡◌, refl, ap, ◌∙◌}
use mathlib.Core.List.{List}
use Prim.Native.Nat.{ℕ}
use Rattle.memory.specs.Bitmap.{with_mark}
use Rattle.transfer.specs.declared.Kind.{Kind}
use Rattle.transfer.specs.declared.Kind.TheVariants.{Flash, MainRam, XipRam}
use Rattle.transfer.specs.declared.Deed.{Deed}
use Rattle.transfer.specs.declared.Deed.TheVariants.{Stores, Notes, Keeps}
use Rattle.transfer.specs.declared.Accepted.{Accepted}
use Rattle.uf2_checks.specs.declared.PlacedBlock.{PlacedBlock}
use Rattle.arrival.specs.Arrive.{Held, World, accepts, cleared_if, wiped_if, paged_at, at_of, done_to, accept_of}
use Rattle.flash_plan.specs.declared.Plan.{Plan}
use Rattle.flash_plan.specs.Plan.{deed_plan, decision_plan, with_flash}
use Rattle.uf2_commit.specs.Entering.{Beside, beside, beside_of, Writing, writing, deed_writing, Entering, entering, entering_of}

-- ---- what the code writes, call by call

pub enters : (p : PlacedBlock) (d : Deed) (t : Accepted) (payload m k u x : List ℕ) {at : ℕ} {k1 m1 m2 : List ℕ} {r : Plan} {h : Beside} → at ≡ at_of p.body → (m1 ≡ cleared_if t.clears m) × (k1 ≡ cleared_if t.clears k) → writing r h ≡ deed_writing d p.head.kind at payload (beside k1 u x) → m2 ≡ with_mark m1 p.number → entering r m2 h ≡ entering_of p d t payload m (beside k u x)
unfolding entering_of
enters p d t payload m k u x at (cleared, wiped) written marked = cc

-- ---- what the code writes is what the meaning has

-- a deed's plan, and the buffers beside the flash
deed_writes : (d : Deed) (kind : Kind) (at : ℕ) (p : List ℕ) (h : Held) → deed_writing d kind at p (beside_of h) ≡ writing (deed_plan d kind at h.sectors) (beside_of (done_to d kind at p h))
unfolding paged_at
deed_writes Stores Flash at p h = refl
deed_writes Stores MainRam at p h = refl
deed_writes Stores XipRam at p h = refl
deed_writes Notes kind at p h = refl
deed_writes Keeps kind at p h = refl

module _ (p : PlacedBlock) (d : Deed) (t : Accepted) (payload : List ℕ) (w : World) where
  entering_is : entering_of p d t payload w.seen (beside_of w.held) ≡ entering (decision_plan (accepts p d t) w.held.sectors) (accept_of w payload p d t).seen (beside_of (accept_of w payload p d t).held)
  unfolding accept_of wiped_if entering_of
  entering_is =
      ap (λ (x : Writing). record { writing = x; seen = with_mark (cleared_if t.clears w.seen) p.number })
      (deed_writes d p.head.kind (at_of p.body) payload (wiped_if t.clears w.held))

  -- a block that is entered is accepted, but for the flash
  pub entered : {r : Plan} {m k u x : List ℕ} → entering r m (beside k u x) ≡ entering_of p d t payload w.seen (beside_of w.held) → (r ≡ decision_plan (accepts p d t) w.held.sectors) × (record { transfer = t.transfer.state; seen = m; held = record { flash = w.held.flash; sectors = k; main = u; xip = x } } ≡ with_flash w.held.flash (accept_of w payload p d t))
  unfolding accept_of
  entered e =
      let z = e ∙ entering_is in
      (ap (λ (q : Entering). q.writing.plan) z, rw (ap (λ (q : Entering). q.seen) z, ap (λ (q : Entering). q.writing.left.sectors) z, ap (λ (q : Entering). q.writing.left.main) z, ap (λ (q : Entering). q.writing.left.xip) z))
