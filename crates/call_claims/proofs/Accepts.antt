-- The claims of specs/Accepts.antt hold. Assumes nothing.
use Prim.Native.Nat.{ℕ, ◌+◌, ◌*◌, ◌/◌, ◌<◌, ◌≤◌, ◌^◌}
use mathlib.Core.Path.{◌≡◌, refl, sym, ap, subst, ◌∙◌}
use mathlib.Core.List.{List, [], ◌∷◌, ◌++◌}
use native.Mathlib.Omega.{arith}
use lib.ListN.{length}
use borrow.Author.Tests.{eq-eqb}
use Rattle.laws.specs.Bytes.{low_first}
use Rattle.laws.specs.Over.{over}
use Rattle.uf2_block.specs.Block.{field_at}
use Rattle.uf2_block.specs.Write.{le32}
use Rattle.uf2_block.proofs.WriteLaws.{field_le32}
use Rattle.memory.specs.Flash.{erase_at, payload_of, store_at}
use Rattle.memory.proofs.flash.Laws.{erase_in, length_erase, length_payload, room_yes}
use Rattle.partitions.specs.declared.Settings.{Settings}
use Rattle.arrival.specs.Arrive.{World, Decision}
use Rattle.arrival_claims.proofs.DecisionFacts.{DecisionFacts, refused, took, decision_facts}
use Rattle.flash_plan.specs.declared.Plan.{Plan}
use Rattle.flash_plan.specs.declared.Plan.TheVariants.{Nothing, Program, EraseProgram}
use Rattle.flash_plan.specs.Plan.{decision_plan, performed, outcome_with, accepting_by, accepting_of}
use Rattle.arrival_claims.specs.Performed.{PlanLies}
use Rattle.arrival_claims.proofs.Claims.{performed_is_taken, decided_lies}
use Rattle.demand.specs.Demand.{seen_of, Ends}
use Rattle.settings_layout.specs.Layout.{settings_from}
use Rattle.call_bytes.specs.Calls.{ArrivalCall, arrival_call_of, plan_words, plan_bytes, PlannedCall, planned_call_of, take_bytes, accept_bytes}
use Rattle.call_claims.specs.CallLists.{CallerState, call, left_by, call_all, returns_of, world_of, CallsEnd, CallsCut}
use Rattle.call_claims.specs.Accepts.{drives, driven_by, accept, carried_out, AcceptIsTake, accept_all, accept_returns, AcceptsAreTakes, AcceptsEnd, AcceptsCut}
use Rattle.call_claims.proofs.CallLists.{calls_end, calls_cut}

-- ---- the three numbers are read as they were written

module _ (d q p : ℕ) (hd : d < 2 ^ 32) (hq : q < 2 ^ 32) (hp : p < 2 ^ 32) where
  deed_back : field_at (plan_words d q p) 0 ≡ d
  unfolding low_first
  deed_back = field_le32 [] d (le32 q ++ le32 p) hd

  sector_back : field_at (plan_words d q p) 4 ≡ q
  unfolding low_first
  sector_back = field_le32 (le32 d) q (le32 p) hq

  page_back : field_at (plan_words d q p) 8 ≡ p
  unfolding low_first
  page_back = field_le32 (le32 d ++ le32 q) p [] hp

  words_driven : (a f : List ℕ) → driven_by (plan_words d q p) a f ≡ drives d q p a f
  words_driven a f = rw (deed_back, sector_back, page_back) refl

-- ---- the driver does what the plan says

store_in : (f : List ℕ) (at : ℕ) (p : List ℕ) → length p ≡ 256 → at + 256 ≤ length f → store_at f at p ≡ over f at p
unfolding store_at
store_in f at p n l = rw (room_yes f at p n l) refl

module _ (s : Settings) (w : World) (a : List ℕ) where
  plan_driven : (x : Plan) → length a ≡ 512 → PlanLies s w a x → driven_by (plan_bytes x) a w.held.flash ≡ performed x (payload_of a) w.held.flash
  unfolding payload_of
  plan_driven Nothing l p = words_driven 0 0 0 (omega arith) (omega arith) (omega arith) a w.held.flash
  plan_driven (Program at) l p =
      let f = w.held.flash in
      words_driven 1 (at / 4096 * 4096) at (omega arith) (omega (arith, p.to, p.within, p.flash)) (omega (arith, p.to, p.within, p.flash)) a f
      ∙ sym (store_in f at (payload_of a) (length_payload a (omega arith)) (omega (arith, p.to, p.within)))
  plan_driven (EraseProgram q at) l p =
      let f = w.held.flash in
      let g = p.0 in
      let within : q < length f / 4096 = omega (arith, p.1, g.sectors.0, g.sectors.1, g.to, g.within) in
      words_driven 2 (q * 4096) at (omega arith) (omega (arith, g.flash)) (omega (arith, g.to, g.within, g.flash)) a f
      ∙ ap (λ (e : List ℕ). over e at (payload_of a)) (sym (erase_in f q within))
      ∙ sym (store_in (erase_at f q) at (payload_of a) (length_payload a (omega arith)) (omega (arith, length_erase f q, g.to, g.within)))

  decided_driven : {d : Decision} → DecisionFacts s w a d → (m : List ℕ)
      → driven_by (plan_bytes (decision_plan d m)) a w.held.flash ≡ performed (decision_plan d m) (payload_of a) w.held.flash
  decided_driven (refused x h) m = words_driven 0 0 0 (omega arith) (omega arith) (omega arith) a w.held.flash
  decided_driven {d = d} (took g k B l q t) m = plan_driven (decision_plan d m) l (decided_lies s w a (took g k B l q t) m)

-- ---- one call

-- with its 12 bytes the call is the arrival accepted
accepted : (s : List ℕ) (h : CallerState) (p a : List ℕ) → length p ≡ 12
    → accept s h p a ≡ planned_call_of h.transfer (accepting_of (settings_from s) (world_of h) a)
unfolding accept_bytes
accepted s h p a e = rw (eq-eqb (length p) 12 e) refl

carried : (s : List ℕ) (h : CallerState) (p a : List ℕ) → length p ≡ 12 → carried_out a (accept s h p a) ≡ call s h a
unfolding accepting_of accepting_by take_bytes
carried s h p a e =
    let z = settings_from s in
    let w = world_of h in
    let o = (accepting_of z w a).outcome in
    ap (carried_out a) (accepted s h p a e)
    ∙ ap (λ (f : List ℕ). arrival_call_of h.transfer (outcome_with f o)) (decided_driven z w a (decision_facts z w a) w.held.sectors)
    ∙ ap (arrival_call_of h.transfer) (performed_is_taken z w a)

pub accept_is_take : AcceptIsTake
unfolding AcceptIsTake accepting_of accepting_by
accept_is_take s h p a e = (ap (λ (r : PlannedCall). r.arrival.lent.flash) (accepted s h p a e), carried s h p a e)

-- ---- a list of calls

-- the bytes of a plan are 12
plan_size : (s : List ℕ) (h : CallerState) (p a : List ℕ) → length p ≡ 12 → length (accept s h p a).plan ≡ 12
unfolding low_first
plan_size s h p a e = ap (λ (r : PlannedCall). length r.plan) (accepted s h p a e)

accepts_left : (s : List ℕ) (h : CallerState) (p : List ℕ) (l : List (List ℕ)) → length p ≡ 12 → accept_all s h p l ≡ call_all s h l
unfolding accept_all call_all
accepts_left s h p [] e = refl
accepts_left s h p (a ∷ l) e =
    accepts_left s (left_by (carried_out a (accept s h p a))) (accept s h p a).plan l (plan_size s h p a e)
    ∙ ap (λ (r : CallerState). call_all s r l) (ap left_by (carried s h p a e))

accepts_return : (s : List ℕ) (h : CallerState) (p : List ℕ) (l : List (List ℕ)) → length p ≡ 12 → accept_returns s h p l ≡ returns_of s h l
unfolding accept_returns returns_of
accepts_return s h p [] e = refl
accepts_return s h p (a ∷ l) e =
    ap (λ (r : List ℕ). (accept s h p a).arrival.result ∷ r)
    (accepts_return s (left_by (carried_out a (accept s h p a))) (accept s h p a).plan l (plan_size s h p a e))
    ∙ ap (λ (r : ArrivalCall). r.result ∷ returns_of s (left_by r) l) (carried s h p a e)

pub accepts_are_takes : AcceptsAreTakes
unfolding AcceptsAreTakes
accepts_are_takes s h p l e = (accepts_left s h p l e, accepts_return s h p l e)

pub accepts_end : AcceptsEnd
unfolding AcceptsEnd CallsEnd
accepts_end s h F i v l t b plain p e =
    subst (λ (k : CallerState). Ends (settings_from s) (world_of h) F (seen_of F l) (world_of k)) (sym (accepts_left s h p l e))
    (calls_end s h F i v l t b plain)

pub accepts_cut : AcceptsCut
unfolding AcceptsCut CallsCut
accepts_cut s h k F C ok plain l sent b whole p e =
    accepts_left s h p l e ∙ calls_cut s h k F C ok plain l sent b whole ∙ sym (accepts_left s k p l e)
