-- A step by what the block does: what stays, stays, and what is accepted is accepted. Assumes nothing.
use mathlib.Core.Path.{◌≡◌, ap, ◌∙◌}
use mathlib.Core.Bool.{Bool, true, false}
use Prim.Native.Nat.{ℕ, ◌+◌}
use native.Mathlib.Omega.{arith}
use lib.Dec.{ltb}
use Rattle.std.specs.Prelude.{Ok, Err}
use Rattle.laws.proofs.Tests.{split}
use Rattle.transfer.specs.Transfer.{same_head, counted, raised, with_deed, accepted, step_of}
use Rattle.transfer.specs.declared.Head.{Head}
use Rattle.transfer.specs.declared.State.{State}
use Rattle.transfer.specs.declared.State.TheVariants.{Idle, Running, Done}
use Rattle.transfer.specs.declared.Unchanged.{Unchanged}
use Rattle.transfer.specs.declared.Accepted.{Accepted}
use Rattle.transfer.specs.declared.Deed.{Deed}
use Rattle.transfer.specs.declared.Deed.TheVariants.{Stores}

-- what stays, stays whatever the block would do
pub stays_any : (t : State) (g : Head) (m : Bool) (d e : Deed) {x : Unchanged} → step_of t g m d ≡ Err x → step_of t g m e ≡ Err x
unfolding step_of
stays_any Idle g m d e q = let z : ◌≡◌ {A = ℕ} 0 1 = cc in absurd (omega arith)
stays_any (Running r) g m d e q =
    split (same_head r.head g)
    (λ y. split m (λ z. rw (y, z) (rw (y, z) at q)) (λ z. let v = rw (y, z) at q in let u : ◌≡◌ {A = ℕ} 0 1 = cc in absurd (omega arith)))
    (λ y. let v = rw y at q in let u : ◌≡◌ {A = ℕ} 0 1 = cc in absurd (omega arith))
stays_any (Done h) g m d e q = q

-- what is accepted as a block that stores is accepted whatever the block does
accepted_any : (d : Deed) (clears discards : Bool) (g : Head) (c : ℕ) → accepted d clears discards g c ≡ with_deed d (accepted Stores clears discards g c)
unfolding accepted counted raised
accepted_any d clears discards g c = split (ltb c g.total) (λ h. rw h) (λ h. rw h)

pub accepts_any : (t : State) (g : Head) (m : Bool) (d : Deed) {y : Accepted} → step_of t g m Stores ≡ Ok y → step_of t g m d ≡ Ok (with_deed d y)
unfolding step_of
accepts_any Idle g m d {y} q = let e : accepted Stores true false g 1 ≡ y = cc in ap Ok (accepted_any d true false g 1 ∙ ap (with_deed d) e)
accepts_any (Running r) g m d {y} q =
    split (same_head r.head g)
    (λ h. split m
    (λ k. let v = rw (h, k) at q in let u : ◌≡◌ {A = ℕ} 0 1 = cc in absurd (omega arith))
    (λ k. let v = rw (h, k) at q in let e : accepted Stores false false g (r.count + 1) ≡ y = cc in rw (h, k) (ap Ok (accepted_any d false false g (r.count + 1) ∙ ap (with_deed d) e))))
    (λ h. let v = rw h at q in let e : accepted Stores true true g 1 ≡ y = cc in rw h (ap Ok (accepted_any d true true g 1 ∙ ap (with_deed d) e)))
accepts_any (Done h) g m d q = let z : ◌≡◌ {A = ℕ} 0 1 = cc in absurd (omega arith)
