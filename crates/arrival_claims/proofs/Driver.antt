-- The claim of specs/Driver.antt holds: what the driver saw erased is what the sector map marks. Assumes nothing.
use Prim.Native.Nat.{ℕ, ◌+◌, ◌/◌, ◌≤◌, ◌<◌}
use mathlib.Core.Path.{◌≡◌, refl, sym, ap, ◌∙◌}
use mathlib.Core.Logic.{◌⊎◌, ◌≢◌, inl, inr, ⊎_elim}
use mathlib.Core.Bool.{Bool, true, false, cond, not, ◌&&◌, ◌||◌, or-false, or-true}
use mathlib.Core.List.{List, [], ◌∷◌}
use native.Mathlib.Omega.{arith}
use lib.Dec.{eqb, ltb, leb}
use lib.ListN.{length}
use borrow.Author.Tests.{le-leb, lt-leb, eq-eqb, ne_eqb, eqb-true, eqb-false}
use Rattle.std.specs.Prelude.{Ok, Err}
use Rattle.laws.proofs.Tests.{split, clash}
use Rattle.memory.specs.Bitmap.{marked_in, with_mark, unmarked}
use Rattle.memory.proofs.bitmap.Laws.{marked_same, marked_other, marked_unmarked}
use Rattle.memory.specs.Flash.{payload_of}
use Rattle.partitions.specs.declared.Settings.{Settings}
use Rattle.partitions.specs.Settings.{good_settings}
use Rattle.transfer.specs.Transfer.{number_of, same_head, good_state, accepted, counted, step_of}
use Rattle.transfer.specs.declared.Kind.{Kind}
use Rattle.transfer.specs.declared.Kind.TheVariants.{Flash, MainRam, XipRam}
use Rattle.transfer.specs.declared.Head.{Head}
use Rattle.transfer.specs.declared.State.{State}
use Rattle.transfer.specs.declared.State.TheVariants.{Idle, Running, Done}
use Rattle.transfer.specs.declared.Deed.{Deed}
use Rattle.transfer.specs.declared.Deed.TheVariants.{Stores, Notes, Keeps}
use Rattle.transfer.specs.declared.Accepted.{Accepted}
use Rattle.uf2_checks.specs.Screen.{screen_of, Screening}
use Rattle.uf2_checks.specs.declared.PlacedBlock.{PlacedBlock}
use Rattle.arrival.specs.Arrive.{Held, World, Decision, stays, accepts, lengths_of, right_lengths, standing, deed_of, stepped, after_screening, decide, decided, cleared_if, wiped_if, paged_at, at_of, done_to, accept_of, done, receive_of}
use Rattle.arrival.specs.Lists.{Delivery}
use Rattle.arrival_claims.proofs.Screening.{Board, Passing}
use Rattle.arrival.proofs.Facts.{length_cleared}
use Rattle.arrival_claims.proofs.DecisionFacts.{deed_at, DecisionFacts, refused, took, decision_facts, took_number, took_state}
use Rattle.flash_plan.specs.declared.Plan.{Plan}
use Rattle.flash_plan.specs.declared.Plan.TheVariants.{Nothing, Program, EraseProgram}
use Rattle.flash_plan.specs.Plan.{sector_plan, deed_plan, decision_plan, accepting_by, accepting_of}
use Rattle.arrival_claims.specs.Driver.{Sight, is_idle, begins_with, sight_of, sights_of, erases, still_erased, erased_after, Allowed, Obeys, ErasedOnceAndFirst}
use Rattle.arrival_claims.proofs.Claims.{page_lies}

-- ---- a transfer begins where the maps are cleared

abbrev Begins : State → Decision → Type 0
Begins u (stays x) = Unit {0}
Begins u (accepts p d t) = t.clears ≡ (is_idle u || t.discarded)

begins_step : (u : State) (p : PlacedBlock) (d : Deed) (m : Bool) → Begins u (stepped p d (step_of u p.head m d))
unfolding step_of accepted
begins_step Idle p d m = refl
begins_step (Running r) p d m =
    split (same_head r.head p.head)
    (λ y. rw y (split m (λ h. rw h tt) (λ h. rw h refl)))
    (λ z. rw z refl)
begins_step (Done g) p d m = tt

begins_screened : (u : State) (seen : List ℕ) (b : Bool) (x : Screening) → Begins u (after_screening u seen b x)
unfolding after_screening
begins_screened u seen b (Err x) = tt
begins_screened u seen b (Ok p) = begins_step u p (deed_of b p) (marked_in seen p.number)

begins_decided : (s : Settings) (w : World) (a : List ℕ) → Begins w.transfer (decided s w a)
unfolding decide
begins_decided s w a =
    let n = lengths_of w.held in
    split (right_lengths (length a) n (length w.seen) (length w.held.sectors))
    (λ r. rw r
    (split (good_settings s n.flash)
    (λ g. rw g
    (split (good_state w.transfer)
    (λ t. rw t (begins_screened w.transfer w.seen (standing s w.held.flash a) (screen_of s n w.transfer a)))
    (λ t. rw t tt)))
    (λ g. rw g tt)))
    (λ r. rw r tt)

-- ---- the sector map is what the driver saw erased

-- E is what the sector map marks, or there is no transfer
abbrev Tells : (ℕ → Bool) → World → Type 0
Tells E w = (is_idle w.transfer ≡ true) ⊎ ((q : ℕ) → E q ≡ marked_in w.held.sectors q)

-- a page of flash, in a sector map m of 1,024 bytes
module _ (E : ℕ → Bool) (m : List ℕ) (e : (q : ℕ) → E q ≡ marked_in m q) (at : ℕ) where
  page_allowed : Allowed E (sector_plan at m)
  page_allowed =
      split (marked_in m (at / 4096))
      (λ y. rw y (e (at / 4096) ∙ y))
      (λ z. rw z (e (at / 4096) ∙ z, refl))

  page_marked : at / 4096 / 8 < length m → (q : ℕ) → (E q || erases (sector_plan at m) q) ≡ marked_in (with_mark m (at / 4096)) q
  page_marked l q =
      split (eqb q (at / 4096))
      (λ y. let f = eqb-true q (at / 4096) y in
      let r : marked_in (with_mark m (at / 4096)) q ≡ true = ap (marked_in (with_mark m (at / 4096))) f ∙ marked_same m (at / 4096) l in
      split (marked_in m (at / 4096))
      (λ b. let z : E q ≡ true = e q ∙ ap (marked_in m) f ∙ b in rw (b, z, r))
      (λ b. rw (b, y, r, or-true (E q))))
      (λ n. let r = marked_other m (at / 4096) q (eqb-false q (at / 4096) n) in
      split (marked_in m (at / 4096))
      (λ b. rw (b, r, or-false (E q)) (e q))
      (λ b. rw (b, n, r, or-false (E q)) (e q)))

-- what a block does that is accepted
module _ (E : ℕ → Bool) (h : Held) (e : (q : ℕ) → E q ≡ marked_in h.sectors q) (at : ℕ) (p : List ℕ) where
  deed_allowed : (d : Deed) (u : Kind) → Allowed E (deed_plan d u at h.sectors)
  deed_allowed Stores Flash = page_allowed E h.sectors e at
  deed_allowed Stores MainRam = tt
  deed_allowed Stores XipRam = tt
  deed_allowed Notes u = tt
  deed_allowed Keeps u = tt

  deed_marked : (d : Deed) (u : Kind) → (d ≡ Stores → u ≡ Flash → at / 4096 / 8 < length h.sectors) → (q : ℕ) → (E q || erases (deed_plan d u at h.sectors) q) ≡ marked_in (done_to d u at p h).sectors q
  unfolding paged_at
  deed_marked Stores Flash l q = page_marked E h.sectors e at (l refl refl) q
  deed_marked Stores MainRam l q = or-false (E q) ∙ e q
  deed_marked Stores XipRam l q = or-false (E q) ∙ e q
  deed_marked Notes u l q = or-false (E q) ∙ e q
  deed_marked Keeps u l q = or-false (E q) ∙ e q

-- one arrival
module _ (s : Settings) (w : World) (a : List ℕ) (E : ℕ → Bool) (T : Tells E w) where
  -- what a driver sees of what an arrival comes to
  abbrev sight : Decision → Sight
  sight d =
      record {
        begins = leb 14 (number_of (done w (payload_of a) d).answer) && (is_idle w.transfer || (done w (payload_of a) d).discarded);
        plan = decision_plan d w.held.sectors;
      }

  -- a refusal leaves all as it was
  refused_tells : (b : Bool) → b ≡ false → Tells (λ q. (not b && E q) || false) w
  refused_tells b e = rw e (⊎_elim (λ i. inl i) (λ f. inr (λ q. or-false (E q) ∙ f q)) T)

  -- the marks that are left of those before, where the maps are cleared or not
  left_marks : (c x : Bool) → c ≡ (is_idle w.transfer || x) → (q : ℕ) → (not c && E q) ≡ marked_in (cleared_if c w.held.sectors) q
  unfolding cleared_if
  left_marks true x e q = sym (marked_unmarked (length w.held.sectors) q)
  left_marks false x e q =
      ⊎_elim
      (λ i. let z : ◌≡◌ {A = Bool} false true = e ∙ rw i in clash false z refl)
      (λ f. f q)
      T

  step_obeys : {d : Decision} → DecisionFacts s w a d → Begins w.transfer d
      → Allowed (still_erased E (sight d)) (sight d).plan × Tells (erased_after E (sight d)) (done w (payload_of a) d).world
  unfolding done accept_of wiped_if
  step_obeys (refused x h) b =
      let z : leb 14 (number_of x) ≡ false = lt-leb 14 (number_of x) (omega arith) in
      (tt, refused_tells (leb 14 (number_of x) && (is_idle w.transfer || false)) (rw z))
  step_obeys (took g k B l q t) b =
      let n : leb 14 (number_of k.answer) ≡ true = le-leb 14 (number_of k.answer) (took_number t) in
      let c : (leb 14 (number_of k.answer) && (is_idle w.transfer || k.discarded)) ≡ k.clears = rw n (sym b) in
      let e : (j : ℕ) → (not (leb 14 (number_of k.answer) && (is_idle w.transfer || k.discarded)) && E j) ≡ marked_in (wiped_if k.clears w.held).sectors j =
      λ j. ap (λ (v : Bool). not v && E j) c ∙ left_marks k.clears k.discarded b j in
      let at = at_of g.body in
      let low : deed_at s w a g ≡ Stores → g.head.kind ≡ Flash → at / 4096 / 8 < length (wiped_if k.clears w.held).sectors =
      λ d u.
      let p = page_lies s w a g k B l q (sym (ap (λ (h : Head). h.kind) q.head) ∙ u) d in
      omega (arith, p.to, p.within, p.flash, length_cleared k.clears w.held.sectors, B.sectors) in
      let F : ℕ → Bool = λ j. not (leb 14 (number_of k.answer) && (is_idle w.transfer || k.discarded)) && E j in (
        deed_allowed F (wiped_if k.clears w.held) e at (payload_of a) (deed_at s w a g) g.head.kind,
        inr (deed_marked F (wiped_if k.clears w.held) e at (payload_of a) (deed_at s w a g) g.head.kind low),
      )

obeys : (w : World) (l : List Delivery) (E : ℕ → Bool) → Tells E w → Obeys E (sights_of w l)
unfolding Obeys sights_of accepting_of accepting_by receive_of
obeys w [] E T = tt
obeys w (t ∷ l) E T =
    let z = step_obeys t.settings w t.arrival E T (decision_facts t.settings w t.arrival) (begins_decided t.settings w t.arrival) in
    (z.0, obeys (receive_of t.settings w t.arrival).world l (erased_after E (sight_of t.settings w t.arrival)) z.1)

pub erased_once_and_first : ErasedOnceAndFirst
erased_once_and_first w l i = obeys w l (λ q. false) (inl i)
