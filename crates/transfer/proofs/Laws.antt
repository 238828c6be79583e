-- An accepted block and a step of a transfer by cases. Assumes nothing.
use mathlib.Core.Path.{◌≡◌, refl, sym, ap, ◌∙◌}
use mathlib.Core.Bool.{Bool, true, false, ◌&&◌, and_assoc}
use denote.Enum.Bare.{sameb}
use Prim.Native.Nat.{ℕ, ◌+◌, ◌<◌, ◌≤◌}
use borrow.Author.Tests.{lt-ltb, le-ltb}
use lib.Dec.{eqb}
use Rattle.std.specs.Prelude.{Ok, Err}
use Rattle.laws.proofs.Tests.{split}
use Rattle.transfer.specs.contracts.Kind.{the_type}
use Rattle.transfer.specs.declared.Kind.{Kind}
use Rattle.transfer.specs.declared.Kind.TheVariants.{Flash, MainRam, XipRam}
use Rattle.transfer.specs.Transfer.{running, same_kind, same_head, counted, deed_answer, raised, kept_state, accepted, step_of, Step}
use Rattle.transfer.specs.declared.Head.{Head}
use Rattle.transfer.specs.declared.Run.{Run}
use Rattle.transfer.specs.declared.State.{State}
use Rattle.transfer.specs.declared.State.TheVariants.{Idle, Running, Done}
use Rattle.transfer.specs.declared.Unchanged.{Unchanged}
use Rattle.transfer.specs.declared.Accepted.{Accepted}
use Rattle.transfer.specs.declared.Deed.{Deed}
use Rattle.transfer.specs.declared.Answer.{Answer}
use Rattle.transfer.specs.declared.Answer.TheVariants.{Again, Completed}

-- ---- what `==` says

-- two kinds are one where their numbers are
pub kinds_are : (k u : Kind) → same_kind k u ≡ sameb the_type k u
kinds_are Flash Flash = refl
kinds_are Flash MainRam = refl
kinds_are Flash XipRam = refl
kinds_are MainRam Flash = refl
kinds_are MainRam MainRam = refl
kinds_are MainRam XipRam = refl
kinds_are XipRam Flash = refl
kinds_are XipRam MainRam = refl
kinds_are XipRam XipRam = refl

-- two heads are one where their fields are
pub heads_are : (g h : Head) → same_head g h ≡ eqb g.family h.family && (eqb g.total h.total && sameb the_type g.kind h.kind)
unfolding same_head
heads_are g h =
    ap (λ (b : Bool). eqb g.family h.family && eqb g.total h.total && b) (kinds_are g.kind h.kind)
    ∙ and_assoc (eqb g.family h.family) (eqb g.total h.total) (sameb the_type g.kind h.kind)

-- ---- a block that is accepted

abbrev pub taken_to : State → Answer → Bool → Bool → Accepted
taken_to s a clears discards = record { transfer = record { state = s }; answer = a; discarded = discards; clears = clears }

module _ (d : Deed) (clears discards : Bool) (g : Head) (c : ℕ) where
  pub accepted_more : c < g.total → accepted d clears discards g c ≡ taken_to (running g c) (deed_answer d) clears discards
  unfolding accepted counted raised
  accepted_more h = simp (lt-ltb c g.total h)

  pub accepted_last : g.total ≤ c → accepted d clears discards g c ≡ taken_to (Done g) Completed clears discards
  unfolding accepted counted raised
  accepted_last h = simp (le-ltb c g.total h)

-- ---- a step

module _ (r : Run) (g : Head) (m : Bool) (d : Deed) where
  pub step_other : same_head r.head g ≡ false → step_of (Running r) g m d ≡ Ok (accepted d true true g 1)
  unfolding step_of
  step_other h = simp h

  module _ (h : same_head r.head g ≡ true) where
    pub step_again : m ≡ true → step_of (Running r) g m d ≡ Err (kept_state (Running r) Again)
    unfolding step_of
    step_again k = simp (h, k)

    pub step_more : m ≡ false → step_of (Running r) g m d ≡ Ok (accepted d false false g (r.count + 1))
    unfolding step_of
    step_more k = simp (h, k)

-- a step that stays hands back the transfer that was
abbrev Handed : State → Step → Type 0
Handed t (Err x) = x.transfer.state ≡ t
Handed t (Ok k) = Unit {0}

handed : (t : State) (g : Head) (m : Bool) (d : Deed) → Handed t (step_of t g m d)
unfolding step_of
handed Idle g m d = tt
handed (Running r) g m d =
    split (same_head r.head g) (λ q. split m (λ y. rw (q, y) refl) (λ z. rw (q, z) tt)) (λ q. rw q tt)
handed (Done h) g m d = refl

pub stays_same : (t : State) (g : Head) (m : Bool) (d : Deed) {x : Unchanged} → step_of t g m d ≡ Err x → x.transfer.state ≡ t
stays_same t g m d q = rw q at (handed t g m d)
