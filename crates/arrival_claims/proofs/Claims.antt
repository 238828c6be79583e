-- The claims of specs/Performed.antt hold. Assumes nothing.
use Prim.Native.Nat.{ℕ, ◌+◌, ◌-◌, ◌*◌, ◌/◌, ◌%◌, ◌≤◌, ◌<◌}
use mathlib.Core.Path.{◌≡◌, refl, sym, ap, subst, ◌∙◌}
use mathlib.Core.Logic.{◌⊎◌, ⊎_elim}
use mathlib.Core.Bool.{Bool, true, false, cond, ◌&&◌, ◌||◌, and-false}
use mathlib.Core.List.{List, [], ◌∷◌}
use native.Mathlib.Omega.{arith}
use lib.Dec.{eqb, ltb, leb}
use lib.ListN.{length}
use borrow.Author.Tests.{lt-leb, le-ltb, ne_eqb}
use Rattle.std.specs.Prelude.{Option, Some}
use Rattle.laws.proofs.Tests.{split, clash, is_false}
use Rattle.memory.specs.Bitmap.{marked_in}
use Rattle.uf2_block.specs.Block.{field_at, has_flag}
use Rattle.memory.proofs.flash.Laws.{length_right}
use Rattle.partitions.specs.declared.Settings.{Settings}
use Rattle.placement.specs.Place.{place_of, place_from}
use Rattle.placement.specs.declared.Place.{Place}
use Rattle.transfer.specs.declared.Kind.{Kind}
use Rattle.transfer.specs.declared.Kind.TheVariants.{Flash, MainRam, XipRam}
use Rattle.transfer.specs.declared.Head.{Head}
use Rattle.transfer.specs.declared.Deed.{Deed}
use Rattle.transfer.specs.declared.Deed.TheVariants.{Stores, Notes, Keeps}
use Rattle.transfer.specs.declared.Accepted.{Accepted}
use Rattle.uf2_checks.specs.Screen.{room_in}
use Rattle.uf2_checks.specs.declared.PlacedBlock.{PlacedBlock}
use Rattle.arrival.specs.Arrive.{World, Outcome, buffer_of, Decision, stays, accepts, decided, cleared_if, at_of, receive_of}
use Rattle.arrival_claims.specs.Bounds.{Outside}
use Rattle.arrival.specs.Lists.{receive_all}
use Rattle.arrival.specs.Windows.{window_start, kind_of}
use Rattle.arrival_claims.proofs.Screening.{flash_of, rooms_for, Board, Passing, passing_room, passing_body, passing_fits}
use Rattle.arrival_claims.proofs.DecisionFacts.{deed_at, DecisionFacts, refused, took, decision_facts}
use Rattle.arrival.proofs.Standing.{keeps_at}
use Rattle.arrival_claims.proofs.Bounds.{deed_is}
use Rattle.flash_plan.specs.declared.Plan.{Plan}
use Rattle.flash_plan.specs.declared.Plan.TheVariants.{Nothing, Program, EraseProgram}
use Rattle.flash_plan.specs.Plan.{deed_plan, decision_plan, accepting_by, accepting_of}
use Rattle.flash_plan.proofs.Laws.{performs_by}
use Rattle.arrival_claims.specs.Performed.{performed_of, PerformedIsTaken, perform_all, AllPerformedAreTaken, Lies, PlanLies, PlansLie, in_page, touches, NothingOutside}

pub performed_is_taken : PerformedIsTaken
unfolding accepting_of receive_of
performed_is_taken s w a = performs_by w a (decided s w a)

pub all_performed_are_taken : AllPerformedAreTaken
unfolding perform_all receive_all
all_performed_are_taken s w [] = refl
all_performed_are_taken s w (a ∷ l) =
    ap (λ (v : World). perform_all s v l) (ap (λ (o : Outcome). o.world) (performed_is_taken s w a))
    ∙ all_performed_are_taken s (receive_of s w a).world l

-- ---- what a plan touches

module _ (s : Settings) (w : World) (a : List ℕ) where
  module _ (g : PlacedBlock) (k : Accepted) (B : Board s w) (l : length a ≡ 512) (q : Passing s w a g) where
    -- a page of flash that is stored
    pub page_lies : kind_of w a ≡ Flash → deed_at s w a g ≡ Stores → Lies s w a (at_of g.body)
    page_lies e d =
        split (has_flag a 0x1)
        (λ y. let z : ◌≡◌ {A = Deed} Notes Stores = sym (deed_is s w a g k q B ∙ rw y) ∙ d in absurd (let v : ◌≡◌ {A = ℕ} 0 1 = cc in omega arith))
        (λ z.
        let f = passing_fits s w a g q B z l in
        let i = passing_room s w a g q B in
        let b : at_of g.body ≡ q.start + (field_at a 12 - window_start (kind_of w a)) = ap at_of (passing_body s w a g q B z) in
        record {
          aligned = ap (λ (n : ℕ). n % 256) b ∙ f.aligned e;
          start = q.start;
          size = q.size;
          place = subst (λ (u : Kind). room_in (rooms_for s w a) u ≡ Some (place_from q.start q.size)) e q.place;
          sectors = i.whole e;
          from = omega (arith, b);
          to = omega (arith, b, (q.page z).ends);
          within = within e i.within;
          flash = (length_right (flash_of w) B.flash).most;
        })
      where
        within : kind_of w a ≡ Flash → q.start + q.size ≤ length (buffer_of (kind_of w a) w.held) → q.start + q.size ≤ length w.held.flash
        within e i = subst (λ (u : Kind). q.start + q.size ≤ length (buffer_of u w.held)) e i

    plan-lies : (d : Deed) (u : Kind) → deed_at s w a g ≡ d → g.head.kind ≡ u → (m : List ℕ) → PlanLies s w a (deed_plan d u (at_of g.body) m)
    plan-lies Stores Flash e f m =
        let p = page_lies (sym (ap (λ (h : Head). h.kind) q.head) ∙ f) e in
        split (marked_in m (at_of g.body / 4096)) (λ y. rw y p) (λ z. rw z (p, refl))
    plan-lies Stores MainRam e f m = tt
    plan-lies Stores XipRam e f m = tt
    plan-lies Notes u e f m = tt
    plan-lies Keeps u e f m = tt

  pub decided_lies : {d : Decision} → DecisionFacts s w a d → (m : List ℕ) → PlanLies s w a (decision_plan d m)
  decided_lies (refused x h) m = tt
  decided_lies (took g k B l q t) m = plan-lies g k B l q (deed_at s w a g) g.head.kind refl refl (cleared_if k.clears m)

pub plans_lie : PlansLie
unfolding accepting_of accepting_by
plans_lie s w a = decided_lies s w a (decision_facts s w a) w.held.sectors

-- a byte outside the place is none of the page's, nor of its sector's
module _ (s : Settings) (w : World) (a : List ℕ) (j : ℕ) (o : Outside (place_of s (length w.held.flash) (field_at a 28)) j) (at : ℕ) (p : Lies s w a at) where
  away : (j < p.start) ⊎ (p.start + p.size ≤ j)
  away = subst (λ (x : Option Place). Outside x j) p.place o

  page_away : in_page at j ≡ false
  page_away =
      ⊎_elim
      (λ b. let z : leb at j ≡ false = lt-leb at j (omega (arith, p.from)) in rw z)
      (λ b. let z : ltb j (at + 256) ≡ false = le-ltb j (at + 256) (omega (arith, p.to)) in rw z (and-false (leb at j)))
      away

  sector_away : eqb (j / 4096) (at / 4096) ≡ false
  sector_away =
      ne_eqb (j / 4096) (at / 4096)
      (λ e. ⊎_elim (λ b. omega (arith, p.from, p.to, p.sectors.0, p.sectors.1)) (λ b. omega (arith, p.from, p.to, p.sectors.0, p.sectors.1)) away)

outside_plan : (s : Settings) (w : World) (a : List ℕ) (j : ℕ) → Outside (place_of s (length w.held.flash) (field_at a 28)) j → (x : Plan) → PlanLies s w a x → touches x j ≡ false
outside_plan s w a j o Nothing p = refl
outside_plan s w a j o (Program at) p = page_away s w a j o at p
outside_plan s w a j o (EraseProgram q at) p =
    let z : eqb (j / 4096) q ≡ false = ap (eqb (j / 4096)) p.1 ∙ sector_away s w a j o at p.0 in
    rw z (page_away s w a j o at p.0)

pub nothing_outside : NothingOutside
nothing_outside s w a j o = outside_plan s w a j o (accepting_of s w a).plan (plans_lie s w a)
