-- An arrival that has passed rows 1 to 11: what it comes to, and what it does once it is accepted. Assumes nothing.
use Prim.Native.Nat.{ℕ}
use mathlib.Core.Path.{◌≡◌, refl}
use mathlib.Core.Bool.{Bool}
use mathlib.Core.List.{List}
use Rattle.memory.specs.Bitmap.{marked_in}
use Rattle.memory.specs.Flash.{payload_of}
use Rattle.transfer.specs.Transfer.{step_of}
use Rattle.transfer.specs.declared.Accepted.{Accepted}
use Rattle.uf2_checks.specs.declared.PlacedBlock.{PlacedBlock}
use Rattle.arrival.specs.Arrive.{Held, World, Outcome, deed_of, stepped, wiped_if, at_of, done_to, accept_of, done}

-- rows 12 to 17 of the arrival a, which passes as p, where what it would store stands or not
unfoldable pub arrive : World → Bool → PlacedBlock → List ℕ → Outcome
arrive w b p a =
    done w (payload_of a) (stepped p (deed_of b p) (step_of w.transfer p.head (marked_in w.seen p.number) (deed_of b p)))

-- what it does to the buffers of its kind
unfoldable pub apply : Bool → PlacedBlock → List ℕ → Held → Held
apply b p a h = done_to (deed_of b p) p.head.kind (at_of p.body) (payload_of a) h

pub took_held : (w : World) (a : List ℕ) (b : Bool) (p : PlacedBlock) (t : Accepted)
    → (accept_of w (payload_of a) p (deed_of b p) t).held ≡ apply b p a (wiped_if t.clears w.held)
unfolding accept_of apply
took_held w a b p t = refl
