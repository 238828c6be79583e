-- Rows 12 to 17 by cases, in the shape of the code's returns. Assumes nothing.
use mathlib.Core.Path.{◌≡◌, sym, ap, ◌∙◌}
use mathlib.Core.Bool.{Bool}
use mathlib.Core.List.{List}
use Prim.Native.Nat.{ℕ}
use Rattle.std.specs.Prelude.{Ok, Err}
use Rattle.memory.specs.Bitmap.{marked_in}
use Rattle.transfer.specs.Transfer.{with_deed, step_of, Step}
use Rattle.transfer.proofs.retold.Laws.{stays_any, accepts_any}
use Rattle.transfer.specs.declared.Transfer.{Transfer}
use Rattle.transfer.specs.declared.Unchanged.{Unchanged}
use Rattle.transfer.specs.declared.Deed.{Deed}
use Rattle.transfer.specs.declared.Deed.TheVariants.{Stores}
use Rattle.transfer.specs.declared.Accepted.{Accepted}
use Rattle.uf2_checks.specs.declared.PlacedBlock.{PlacedBlock}
use Rattle.arrival.specs.Arrive.{Decision, deed_of, after_screening, stays, accepts}
use Rattle.uf2_known.specs.Verdict.{accepted_as}

module _ (t : Transfer) (p : PlacedBlock) (seen : List ℕ) (kept : Bool) {m : Bool} (e : m ≡ marked_in seen p.number) where
  -- what stays, stays whatever the flash has
  pub settled_stays : {s : Step} → s ≡ step_of t.state p.head m Stores → {x : Unchanged} → s ≡ Err x
      → stays x.answer ≡ after_screening t.state seen kept (Ok p)
  unfolding after_screening
  settled_stays q w =
      let z : step_of t.state p.head (marked_in seen p.number) (deed_of kept p) ≡ Err _ =
      ap (λ (b : Bool). step_of t.state p.head b (deed_of kept p)) (sym e) ∙ stays_any t.state p.head m Stores (deed_of kept p) (sym q ∙ w) in
      rw z

  -- and what is accepted is accepted
  pub settled_accepts : {s : Step} → s ≡ step_of t.state p.head m Stores → {y : Accepted} → s ≡ Ok y
      → {d : Decision} → d ≡ accepted_as kept p y → d ≡ after_screening t.state seen kept (Ok p)
  unfolding after_screening
  settled_accepts q {y} w g =
      let v : step_of t.state p.head (marked_in seen p.number) (deed_of kept p) ≡ Ok (with_deed (deed_of kept p) y) =
      ap (λ (b : Bool). step_of t.state p.head b (deed_of kept p)) (sym e) ∙ accepts_any t.state p.head m (deed_of kept p) (sym q ∙ w) in
      rw v g

-- the deed and what is done, call by call
pub accepted_by_lem : (kept : Bool) (p : PlacedBlock) (y : Accepted) {d : Deed} → d ≡ deed_of kept p → {z : Accepted} → z ≡ with_deed d y → accepts p d z ≡ accepted_as kept p y
accepted_by_lem kept p y f g = rw (g, f)
