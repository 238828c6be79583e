-- The claims about reasons. Assumes nothing.
use mathlib.Core.Path.{◌≡◌, refl, sym, ap, ◌∙◌}
use mathlib.Core.List.{List}
use Prim.Native.Nat.{ℕ, ◌<◌}
use Rattle.why_causes.specs.Checks.{Deciding, none, here, later, running_row, done_row, state_row, magic_row, flags_row, header_row}
use Rattle.why_causes.specs.Lengths.{flash_row, buffer_row, lengths_row}
use Rattle.why_causes.specs.Numbers.{numbers_row, address_row, stray_row}
use Rattle.why_checks.specs.Block.{written_row}
use Rattle.why.specs.Why.{denial_row, place_row, checks_of, last_of, test_of, holds_in, reason_of, entries_of, why_of}
use Rattle.why_claims.specs.Claims.{ReasonIsTrue, AnswerIsTheReceivers, MarksAreTrue, rises_from, InOrder}
use mathlib.Core.Bool.{Bool, true, false, not, ◌&&◌}
use mathlib.Core.Logic.{◌⊎◌, inl, inr, ⊎_elim}
use native.Mathlib.Omega.{arith}
use lib.Dec.{leb, eqb}
use lib.ListN.{get_or}
use borrow.Author.Tests.{leb-true, lt-ltb, not-true}
use Rattle.laws.specs.Sets.{any}
use Rattle.laws.proofs.Tests.{split, and_right}
use Rattle.laws.proofs.Laws.{any_all}
use Rattle.laws.proofs.TabLaws.{get_d_tab}
use Rattle.uf2_block.specs.Block.{field_at}
use Rattle.partitions.specs.Settings.{family_absolute, entry_at, is_a, accepts}
use Rattle.partitions.specs.declared.Settings.{Settings}
use Rattle.placement.specs.Place.{used_count}
use Rattle.why_place.specs.Placing.{no_table, takes_at, denies, mark_for, mark_of, marks_of, Marked}
use Rattle.why_place.specs.declared.Denial.TheVariants.{NoEntry}
use Rattle.why_causes.specs.declared.Cause.{Cause}
use Rattle.why_causes.specs.declared.Cause.TheVariants.{Kept}
use Rattle.why_causes.specs.declared.Reason.{Reason}
use Rattle.transfer.specs.declared.Kind.{Kind}
use Rattle.transfer.specs.declared.Kind.TheVariants.{Flash, MainRam, XipRam}
use Rattle.transfer.specs.declared.State.{State}
use Rattle.transfer.specs.declared.State.TheVariants.{Idle, Running, Done}
use Rattle.why_causes.proofs.Rows.{deciding}
use Rattle.why_claims.proofs.Agree.{answers_agree}
use Rattle.why_claims.proofs.Ranks.{faults_rank}
use Rattle.why_claims.proofs.Fields.{mark_fields, low_used}

pub reason_is_true : ReasonIsTrue
unfolding ReasonIsTrue reason_of why_of
reason_is_true s w a = deciding (holds_in s w a) (last_of w a) (checks_of s w a)

pub answer_is_the_receivers : AnswerIsTheReceivers
unfolding AnswerIsTheReceivers why_of
answer_is_the_receivers s w a = answers_agree s w a

states : (t : State) → rises_from 300 (state_row t) ≡ true
unfolding state_row running_row done_row
states Idle = refl
states (Running r) = refl
states (Done g) = refl

places : (k : Kind) (f : ℕ) → rises_from 800 (place_row k f) ≡ true
unfolding place_row denial_row
places Flash f = refl
places MainRam f = refl
places XipRam f = refl

pub in_order_lem : InOrder
unfolding lengths_row flash_row buffer_row header_row magic_row flags_row numbers_row address_row stray_row written_row
in_order_lem =
    record {
      faults = faults_rank;
      lengths = λ a n m k. refl;
      state = states;
      header = λ a. refl;
      place = places;
      numbers = λ t k z. refl;
      address = λ x z. refl;
      stray = λ x. refl;
      written = λ r t. refl;
    }

-- ---- the marks

pub never : ◌≡◌ {A = ℕ} 0 1 → ⊥
never e = omega arith

-- what decides holds, unless every check passes
pub decided_holds : (test : Reason → Bool) (last : Reason) {l : List Reason} {r : Reason} → Deciding test last l r → (r ≡ last) ⊎ (test r ≡ true)
decided_holds test last none = inl refl
decided_holds test last (here h) = inr h
decided_holds test last (later h d) = decided_holds test last d

marked_entry : (s : Settings) (f k : ℕ) → takes_at s.table f k ≡ false → Marked (entry_at s.table k) f (mark_for (entry_at s.table k) f)
unfolding takes_at
marked_entry s f k h =
    let e = entry_at s.table k in
    split (is_a e) (λ a. let b : accepts e f ≡ false = rw a at h in inr (rw (a, b), a, b)) (λ a. inl (rw a, a))

used_low : (n k : ℕ) → k < used_count n → k < 16
used_low n k l = split (leb n 16) (λ h. let m = leb-true n 16 h in let q : k < n = rw h at l in omega arith) (λ h. rw h at l)

-- where the rule about entries holds, each used entry has its mark
pub marks_denied : (s : Settings) (f : ℕ) → denies s f NoEntry ≡ true → (k : ℕ) → k < used_count s.count → Marked (entry_at s.table k) f (get_or (marks_of s f) k 0)
unfolding marks_of mark_of
marks_denied s f t k l =
    let n = used_count s.count in
    let none = not-true _ (and_right (not (no_table s) && not (eqb f family_absolute)) (not (any n (takes_at s.table f))) t) in
    rw (get_d_tab 16 (mark_of s f) k (used_low s.count k l), lt-ltb k n l) (marked_entry s f k (any_all (takes_at s.table f) n none k l))

pub marks_are_true : MarksAreTrue
unfolding ReasonIsTrue MarksAreTrue why_of
marks_are_true s w a h k b u =
    let f = field_at a 28 in
    let l = low_used s.count k b u in
    let t : denies s f NoEntry ≡ true =
    ⊎_elim
    (λ e. let q : (reason_of s w a).cause ≡ Kept = ap (λ (r : Reason). r.cause) e in let z : ◌≡◌ {A = ℕ} 0 1 = cc in absurd (never z))
    (λ e. ap (λ (c : Cause). test_of s w a c (reason_of s w a).got (reason_of s w a).against) (sym h) ∙ e)
    (decided_holds (holds_in s w a) (last_of w a) (reason_is_true s w a)) in
    mark_fields (entry_at s.table k) f _ (rw (ap (λ (c : Cause). get_or (entries_of s f c) k 0) h) (marks_denied s f t k l))
