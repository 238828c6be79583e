-- The claims of specs/CallLists.antt hold. Assumes nothing.
use Prim.Native.Nat.{ℕ, zero, suc, ◌+◌, ◌/◌, ◌%◌, ◌<◌, ◌≤◌, ◌^◌}
use mathlib.Core.Path.{◌≡◌, refl, sym, ap, subst, ◌∙◌}
use mathlib.Core.Logic.{◌≢◌}
use mathlib.Core.Bool.{Bool, true, false, ◌||◌, not}
use mathlib.Core.List.{List, [], ◌∷◌, ◌++◌, map}
use native.Mathlib.Nat.{pow-suc}
use native.Mathlib.Omega.{arith}
use lib.Dec.{ltb, leb, eqb}
use lib.ListN.{length, get_or, drop, length-take, length-drop}
use lib.Seq.{get_or-take, get_or-drop}
use borrow.Author.Tests.{ltb-true, ltb-false, le-leb, lt-leb, leb-true, leb-false, eqb-true, eqb-false, eq-eqb}
use Rattle.laws.proofs.Tests.{split, clash, or_left, or_right}
use Rattle.laws.specs.Sets.{Set}
use Rattle.laws.proofs.Laws.{size_le}
use Rattle.laws.specs.Bytes.{low_first, number_in}
use Rattle.uf2_block.specs.Block.{field_at}
use Rattle.ihex_record.specs.Write.{Bytes}
use Rattle.partitions.specs.declared.Settings.{Settings}
use Rattle.transfer.specs.Transfer.{number_of, kind_number, good_state, counted, accepted}
use Rattle.transfer.specs.declared.Head.{Head}
use Rattle.transfer.specs.declared.Run.{Run}
use Rattle.transfer.specs.declared.State.{State}
use Rattle.transfer.specs.declared.State.TheVariants.{Idle, Running, Done}
use Rattle.transfer.specs.declared.Deed.{Deed}
use Rattle.transfer.specs.declared.Accepted.{Accepted}
use Rattle.transfer.specs.declared.Answer.{Answer}
use Rattle.memory.specs.Flash.{payload_of}
use Rattle.arrival.specs.Arrive.{World, buffer_of, lent_of, Outcome, Decision, accept_of, done, receive_of}
use Rattle.arrival.specs.Lists.{receive_all, answers_of, discards_of, Delivery, play_all}
use Rattle.arrival_claims.specs.Bounds.{RefusalsChangeNothing}
use Rattle.arrival.specs.Facts.{LookTells}
use Rattle.arrival.specs.Windows.{head_of}
use Rattle.arrival_claims.specs.Tally.{any_accepted, CountIsMarks}
use Rattle.demand.specs.Demand.{File, seen_of, how_many, head_in, Counts, Contents, Ends, ListCounts, ListEnds, CompletedExactly, SameSetSameEnd, EitherFirst}
use Rattle.demand.specs.Regions.{RegionsEnd}
use Rattle.demand.specs.Stopped.{EndsAlike, StoppedThenGood}
use Rattle.arrival_claims.proofs.DecisionFacts.{AcceptFacts, DecisionFacts, refused, took, took_number, decision_facts}
use Rattle.arrival_claims.proofs.Bounds.{refusals_change_nothing}
use Rattle.arrival.proofs.Facts.{look_tells}
use Rattle.arrival_claims.proofs.Tally.{count_is_marks}
use Rattle.demand.proofs.Demand.{list_counts, list_ends, completed_exactly, same_set_same_end, either_first}
use Rattle.demand.proofs.Runs.{mixed_map}
use Rattle.demand.proofs.Regions.{regions_end}
use Rattle.demand.proofs.Stopped.{stopped_then_good}
use Rattle.demand.specs.Cut.{CutThenWhole, StandingIsReceived}
use Rattle.demand.proofs.Cut.{cut_then_whole, standing_is_received}
use Rattle.settings_layout.specs.Layout.{byte_at, state_from, settings_from, transfer_bytes, head_bytes, state_bytes, with_transfer}
use Rattle.transfer_layout.proofs.Refused.{state_length}
use Rattle.transfer_layout.proofs.Transfers.{Small, written_back}
use Rattle.transfer_layout.specs.Results.{result_of, is_acceptance}
use Rattle.uf2_batch.specs.Batch.{arrivals_of, results_of, any_acceptance, stored_from, fewer, batch_of}
use Rattle.transfer_layout.proofs.results.Laws.{number_most}
use Rattle.call_bytes.specs.Calls as calls
use Rattle.call_bytes.specs.Calls.{look_result, look_bytes, take_bytes, take_batch}
use Rattle.call_claims.specs.CallLists.{CallerState, call, left_by, call_all, returns_of, world_of, AllBytes, CallsAreArrivals, CallsCountStated, CallsEnd, CallsRegions, CallsCompleted, CallsSameSet, CallsEitherFirst, CallsStopped, CallsCut, CallsStanding, CallsAreOneCall, LookIsTake, Call, looks, takes, play_calls, taken_by, LooksChangeNothing, LookThenTake}

-- ---- a field of bytes

byte_low : (b : List ℕ) → Bytes b → (i : ℕ) → get_or b i 0 < 256
byte_low [] h i = omega arith
byte_low (x ∷ b) h zero = h zero (omega arith)
byte_low (x ∷ b) h (suc i) = byte_low b (λ j l. h (suc j) (omega arith)) i

-- n bytes are a number below 256 ^ n
pub number_low : (n : ℕ) (b : List ℕ) → Bytes b → (at : ℕ) → number_in n b at < 256 ^ n
unfolding number_in
number_low zero b h at = omega arith
number_low (suc n) b h at = omega (arith, byte_low b h at, number_low n b h (at + 1), pow-suc 256 n)

field_low : (a : List ℕ) → Bytes a → (at : ℕ) → field_at a at < 2 ^ 32
unfolding field_at
field_low a h at =
    split (leb (at + 4) (length a))
    (λ y. rw y (number_low 4 a h at))
    (λ z. rw z (omega arith))

-- ---- the transfer of a block that was accepted fits its bytes

counted_small : (g : Head) (c : ℕ) → g.family < 2 ^ 32 → g.total < 2 ^ 32 → Small (counted g c)
unfolding counted
counted_small g c hf ht =
    split (ltb c g.total) (λ y. let l = ltb-true c g.total y in rw y (hf, ht, omega arith)) (λ z. rw z (hf, ht))

took_small : {t : State} {g : Head} {m : Bool} {d : Deed} {k : Accepted} (w : World) (a : List ℕ) → Bytes a → g ≡ head_of w a → AcceptFacts t g m d k → Small k.transfer.state
unfolding accepted
took_small {g = g} w a h e q =
    subst (λ (k : Accepted). Small k.transfer.state) (sym q.is)
    (counted_small g _ (rw e (field_low a h 28)) (rw e (field_low a h 24)))

-- bytes of a good state are 14
good_size : (t : List ℕ) → good_state (state_from t) ≡ true → length t ≡ 14
good_size t g =
    split (eqb (length t) 14)
    (λ y. eqb-true (length t) 14 y)
    (λ z. clash (good_state (state_from t)) g (state_length t (eqb-false (length t) 14 z)))

-- ---- one call

-- the bytes that are left are read as the next transfer
next_state : (s : Settings) (w : World) (a p t : List ℕ) → w.transfer ≡ state_from t → Bytes a → {d : Decision} → DecisionFacts s w a d
    → state_from (calls.kept_transfer t (is_acceptance (number_of (done w p d).answer)) (done w p d).world.transfer) ≡ (done w p d).world.transfer
unfolding done accept_of
next_state s w a p t e h (refused x n) = rw (lt-leb 14 (number_of x) (omega arith)) (sym e)
next_state s w a p t e h (took g k B l q m) =
    rw (le-leb 14 (number_of k.answer) (took_number m))
    (written_back t k.transfer.state (good_size t (rw e at B.state)) (took_small w a h q.head m))

-- so the call leaves what the arrival leaves
next_world : (s : List ℕ) (h : CallerState) (a : List ℕ) → Bytes a
    → world_of (left_by (call s h a)) ≡ (receive_of (settings_from s) (world_of h) a).world
unfolding take_bytes receive_of
next_world s h a b =
    let z = settings_from s in
    let w = world_of h in
    ap (λ (x : State). record { transfer = x; seen = (receive_of z w a).world.seen; held = (receive_of z w a).world.held })
    (next_state z w a (payload_of a) h.transfer refl b (decision_facts z w a))

-- ---- a list of calls

calls_world : (s : List ℕ) (h : CallerState) (l : List (List ℕ)) → AllBytes l → world_of (call_all s h l) ≡ receive_all (settings_from s) (world_of h) l
unfolding call_all receive_all
calls_world s h [] b = refl
calls_world s h (a ∷ l) b =
    calls_world s (left_by (call s h a)) l b.1 ∙ ap (λ (w : World). receive_all (settings_from s) w l) (next_world s h a b.0)

-- the results of a list of arrivals
abbrev results_at : Settings → World → List (List ℕ) → List ℕ
results_at z w l = results_of (answers_of z w l) (discards_of z w l)

calls_results : (s : List ℕ) (h : CallerState) (l : List (List ℕ)) → AllBytes l → returns_of s h l ≡ results_at (settings_from s) (world_of h) l
unfolding returns_of answers_of discards_of results_of take_bytes
calls_results s h [] b = refl
calls_results s h (a ∷ l) b =
    ap (λ (r : List ℕ). (call s h a).result ∷ r)
    (calls_results s (left_by (call s h a)) l b.1 ∙ ap (λ (w : World). results_at (settings_from s) w l) (next_world s h a b.0))

pub calls_are_arrivals : CallsAreArrivals
unfolding CallsAreArrivals
calls_are_arrivals s h l b = (calls_world s h l b, calls_results s h l b)

-- ---- the transfer's bytes

-- a transfer written over a written one
written_again : (t : List ℕ) (x y : State) → with_transfer (with_transfer t x) y ≡ with_transfer t y
unfolding with_transfer
written_again t x y =
    split (eqb (length t) 14) (λ e. rw (e, eq-eqb (length (state_bytes x)) 14 (state-size x))) (λ n. rw (n, n))
  where
    state-size : (x : State) → length (state_bytes x) ≡ 14
    state-size Idle = unfold transfer_bytes low_first in refl
    state-size (Running r) = unfold transfer_bytes low_first in refl
    state-size (Done g) = unfold transfer_bytes low_first in refl

-- where no block is accepted the transfer stays
none_taken : (z : Settings) (w : World) (l : List (List ℕ)) → any_acceptance (answers_of z w l) ≡ false → (receive_all z w l).transfer ≡ w.transfer
unfolding any_acceptance answers_of receive_all RefusalsChangeNothing
none_taken z w [] e = refl
none_taken z w (a ∷ l) e =
    let o = receive_of z w a in
    let n = leb-false 14 (number_of o.answer) (or_left (is_acceptance (number_of o.answer)) (any_acceptance (answers_of z o.world l)) e) in
    none_taken z o.world l (or_right (is_acceptance (number_of o.answer)) (any_acceptance (answers_of z o.world l)) e)
    ∙ ap (λ (x : Outcome). x.world.transfer) (refusals_change_nothing z w a (omega arith))

-- a call and then others: x for the call, y for a block that one of the others took
kept_twice : (t : List ℕ) (x y : Bool) (next last : State) → (y ≡ false → last ≡ next)
    → calls.kept_transfer (calls.kept_transfer t x next) y last ≡ calls.kept_transfer t (x || y) last
kept_twice t true true next last e = written_again t next last
kept_twice t true false next last e = ap (with_transfer t) (sym (e refl))
kept_twice t false y next last e = refl

-- the calls leave the bytes of the last transfer where one of them took a block, and else what was lent
calls_transfer : (s : List ℕ) (h : CallerState) (l : List (List ℕ)) → AllBytes l → let z = settings_from s in
    (call_all s h l).transfer ≡ calls.kept_transfer h.transfer (any_acceptance (answers_of z (world_of h) l)) (receive_all z (world_of h) l).transfer
unfolding call_all receive_all answers_of any_acceptance take_bytes
calls_transfer s h [] b = refl
calls_transfer s h (a ∷ l) b =
    let z = settings_from s in
    let o = receive_of z (world_of h) a in
    calls_transfer s (left_by (call s h a)) l b.1
    ∙ ap (λ (w : World). calls.kept_transfer (call s h a).transfer (any_acceptance (answers_of z w l)) (receive_all z w l).transfer) (next_world s h a b.0)
    ∙ kept_twice h.transfer (is_acceptance (number_of o.answer)) _ _ _ (none_taken z o.world l)

-- ---- from Idle, what a list leaves says whether a block was accepted

abbrev is_idle : State → Bool
is_idle Idle = true
is_idle (Running r) = false
is_idle (Done g) = false

-- a list of arrivals with one settings, as deliveries
abbrev delivered : Settings → List ℕ → Delivery
delivered z a = record { settings = z; arrival = a }

play_is : (z : Settings) (w : World) (l : List (List ℕ)) → play_all w (map (delivered z) l) ≡ receive_all z w l
unfolding play_all receive_all
play_is z w [] = refl
play_is z w (a ∷ l) = play_is z (receive_of z w a).world l

any_is : (z : Settings) (w : World) (l : List (List ℕ)) → any_accepted w (map (delivered z) l) ≡ any_acceptance (answers_of z w l)
unfolding any_accepted any_acceptance answers_of
any_is z w [] = refl
any_is z w (a ∷ l) = ap (λ (b : Bool). is_acceptance (number_of (receive_of z w a).answer) || b) (any_is z (receive_of z w a).world l)

accepted_any : (z : Settings) (w : World) (l : List (List ℕ)) → w.transfer ≡ Idle
    → any_acceptance (answers_of z w l) ≡ not (is_idle (receive_all z w l).transfer)
unfolding CountIsMarks
accepted_any z w l i =
    let d = map (delivered z) l in
    let c = (count_is_marks w i d).idle in
    sym (any_is z w l)
    ∙ split (any_accepted w d)
    (λ y. y ∙ sym (ap not (busy (receive_all z w l).transfer (λ e. clash (any_accepted w d) y (c.0 (ap (λ (v : World). v.transfer) (play_is z w l) ∙ e))))))
    (λ n. n ∙ sym (ap (λ (t : State). not (is_idle t)) (sym (ap (λ (v : World). v.transfer) (play_is z w l)) ∙ c.1 n)))
  where
    busy : (t : State) → (t ≡ Idle → ⊥) → is_idle t ≡ false
    busy Idle n = absurd (n refl)
    busy (Running r) n = refl
    busy (Done g) n = refl

-- what the caller holds after a list that leaves v
abbrev state_with : List ℕ → World → CallerState
state_with t w = record { transfer = t; lent = lent_of w }

abbrev left_of : CallerState → World → CallerState
left_of h v = state_with (calls.kept_transfer h.transfer (not (is_idle v.transfer)) v.transfer) v

calls_left : (s : List ℕ) (h : CallerState) (l : List (List ℕ)) → (world_of h).transfer ≡ Idle → AllBytes l
    → call_all s h l ≡ left_of h (receive_all (settings_from s) (world_of h) l)
calls_left s h l i b =
    let z = settings_from s in
    let v = receive_all z (world_of h) l in
    ap (state_with (call_all s h l).transfer) (calls_world s h l b)
    ∙ ap (λ (t : List ℕ). state_with t v)
    (calls_transfer s h l b ∙ ap (λ (x : Bool). calls.kept_transfer h.transfer x v.transfer) (accepted_any z (world_of h) l i))

-- the bytes of a transfer that is not Idle
busy_bytes : (t : List ℕ) (x : State) → length t ≡ 14 → is_idle x ≡ false → calls.kept_transfer t (not (is_idle x)) x ≡ state_bytes x
unfolding with_transfer
busy_bytes t x e n = rw (n, eq-eqb (length t) 14 e)

-- its last byte is its kind's number
kind_byte : (tag : ℕ) (g : Head) (c : ℕ) → byte_at (head_bytes tag g c) 13 ≡ kind_number g.kind
unfolding transfer_bytes low_first
kind_byte tag g c = refl

-- ---- demand 3

pub calls_count : CallsCountStated
unfolding CallsCountStated ListCounts
calls_count s h F i v l t b =
    let z = settings_from s in
    let w = receive_all z (world_of h) l in
    let E = list_counts z (world_of h) F i v l t in
    let size = good_size h.transfer (rw i (unfold good_state in refl)) in
    let same = calls_left s h l i b in
    let bytes : (x : State) → is_idle x ≡ false → w.transfer ≡ x → (call_all s h l).transfer ≡ state_bytes x =
    λ x n e. ap (λ (k : CallerState). k.transfer) same ∙ ap (λ (x : State). calls.kept_transfer h.transfer (not (is_idle x)) x) e ∙ busy_bytes h.transfer x size n in
    record {
      counts = subst (Counts (world_of h) F (seen_of F l)) (sym (calls_world s h l b)) E;
      untouched = λ m. same ∙ ap (left_of h) (E.untouched m) ∙ rw i;
      going = λ m n. bytes _ refl (E.going m n);
      whole = λ m. bytes _ refl (E.whole m);
      kind =
          λ m.
          let n = how_many F (seen_of F l) in
          let last : (x : State) → is_idle x ≡ false → w.transfer ≡ x → byte_at (call_all s h l).transfer 13 ≡ byte_at (state_bytes x) 13 =
          λ x q e. ap (λ (t : List ℕ). byte_at t 13) (bytes x q e) in
          split (ltb n F.total)
          (λ y. last _ refl (E.going m (ltb-true n F.total y)) ∙ kind_byte 1 (head_in F) n)
          (λ z.
          let all : n ≡ F.total = omega (arith, ltb-false n F.total z, size_le F.total (seen_of F l)) in
          last _ refl (E.whole all) ∙ kind_byte 2 (head_in F) F.total);
    }

pub calls_end : CallsEnd
unfolding CallsEnd ListEnds
calls_end s h F i v l t b p =
    subst (Ends (settings_from s) (world_of h) F (seen_of F l)) (sym (calls_world s h l b)) (list_ends (settings_from s) (world_of h) F i v l t p)

pub calls_regions : CallsRegions
unfolding CallsRegions RegionsEnd
calls_regions s h F i v l t b r c =
    subst (Contents (settings_from s) (world_of h) F (seen_of F l)) (sym (calls_world s h l b)) (regions_end (settings_from s) (world_of h) F i v r l c)

-- the answer's number in a result
result_number : (x : Answer) (d : Bool) → result_of (number_of x) d % 128 ≡ number_of x
result_number x true = omega (arith, number_most x)
result_number x false = omega (arith, number_most x)

pub calls_completed : CallsCompleted
unfolding CallsCompleted CompletedExactly take_bytes
calls_completed s h F i v l t b a u =
    let z = settings_from s in
    let o = receive_of z (world_of (call_all s h l)) a in
    ap (λ (n : ℕ). eqb n 15) (result_number o.answer o.discarded)
    ∙ ap (λ (w : World). eqb (number_of (receive_of z w a).answer) 15) (calls_world s h l b)
    ∙ completed_exactly z (world_of h) F i v l a u

pub calls_same_set : CallsSameSet
unfolding CallsSameSet SameSetSameEnd
calls_same_set s h F i v l t b p m u c e =
    calls_left s h l i b
    ∙ ap (left_of h) (same_set_same_end (settings_from s) (world_of h) F i v l t p m u e)
    ∙ sym (calls_left s h m i c)

all_append : (l m : List (List ℕ)) → AllBytes l → AllBytes m → AllBytes (l ++ m)
all_append [] m b c = c
all_append (a ∷ l) m b c = (b.0, all_append l m b.1 c)

pub calls_either_first : CallsEitherFirst
unfolding CallsEitherFirst EitherFirst
calls_either_first s h F i v l t b p m u c =
    calls_left s h (l ++ m) i (all_append l m b c)
    ∙ ap (left_of h) (either_first (settings_from s) (world_of h) F i v l t p m u)
    ∙ sym (calls_left s h (m ++ l) i (all_append m l c b))

-- ---- a stopped update, then a good one

-- where the transfer moves, its bytes are written
moved_bytes : (s : List ℕ) (h : CallerState) (l : List (List ℕ)) → AllBytes l → good_state (world_of h).transfer ≡ true
    → (receive_all (settings_from s) (world_of h) l).transfer ≢ (world_of h).transfer
    → (call_all s h l).transfer ≡ state_bytes (receive_all (settings_from s) (world_of h) l).transfer
moved_bytes s h l b g n =
    let z = settings_from s in
    calls_transfer s h l b
    ∙ split (any_acceptance (answers_of z (world_of h) l))
    (λ y. rw y (unfold with_transfer in rw (eq-eqb (length h.transfer) 14 (good_size h.transfer g))))
    (λ e. absurd (n (none_taken z (world_of h) l e)))

-- a transfer of another head, and an Idle one, is none that a file leaves
abbrev head_now : Head → State → Head
head_now g Idle = g
head_now g (Running r) = r.head
head_now g (Done h) = h

abbrev is_running : State → Bool
is_running Idle = false
is_running (Running r) = true
is_running (Done h) = false

module _ (w : World) (F : File) (S : Set) (y : World) (C : Counts w F S y) (n : 1 ≤ how_many F S) where
  busy : is_idle y.transfer ≡ false
  busy =
      split (ltb (how_many F S) F.total)
      (λ t. ap is_idle (C.going n (ltb-true (how_many F S) F.total t)))
      (λ z. ap is_idle (C.whole (omega (arith, ltb-false (how_many F S) F.total z, size_le F.total S))))

  of_file : (r : Run) → y.transfer ≡ Running r → r.head ≡ head_in F
  of_file r e =
      split (ltb (how_many F S) F.total)
      (λ t. ap (head_now r.head) (sym e ∙ C.going n (ltb-true (how_many F S) F.total t)))
      (λ z.
      let d = C.whole (omega (arith, ltb-false (how_many F S) F.total z, size_le F.total S)) in
      clash (is_running y.transfer) (ap is_running e) (ap is_running d))

pub calls_stopped : CallsStopped
unfolding CallsStopped StoppedThenGood ListCounts
calls_stopped s h k F Z v p l m b n =
    let z = settings_from s in
    let x = receive_all z (world_of h) l in
    let y = receive_all z (world_of k) l in
    let E = stopped_then_good z (world_of h) (world_of k) F Z v p l m n in
    let C = list_counts z (world_of k) F Z.idle v l (mixed_map (λ a f. f.foreign) m) in
    let free : y.transfer ≢ (world_of k).transfer =
    λ e. clash (is_idle y.transfer) (ap is_idle (e ∙ Z.idle)) (busy (world_of k) F (seen_of F l) y C n) in
    let other : x.transfer ≢ (world_of h).transfer =
    λ e. Z.differs (of_file (world_of k) F (seen_of F l) y C n Z.run (sym E.transfer ∙ e ∙ Z.running)) in
    record {
      ends =
          subst (λ (u : World). EndsAlike z (world_of k) F l u (world_of (call_all s k l))) (sym (calls_world s h l b))
          (subst (EndsAlike z (world_of k) F l x) (sym (calls_world s k l b)) E);
      transfer =
          moved_bytes s h l b Z.sound other ∙ ap state_bytes E.transfer
          ∙ sym (moved_bytes s k l b (rw Z.idle (unfold good_state in refl)) free);
    }

-- ---- power lost, then the file again

pub calls_cut : CallsCut
unfolding CallsCut CutThenWhole ListCounts
calls_cut s h k F C ok plain l sent b whole =
    let z = settings_from s in
    let y = receive_all z (world_of k) l in
    let n : is_idle y.transfer ≡ false = ap is_idle ((list_counts z (world_of k) F C.before ok l sent).whole whole) in
    let idle : good_state Idle ≡ true = unfold good_state in refl in
    calls_left s h l C.back b
    ∙ ap (left_of h) (cut_then_whole z (world_of h) (world_of k) F C ok plain l sent whole)
    ∙ ap (λ (t : List ℕ). state_with t y)
    (busy_bytes h.transfer y.transfer (good_size h.transfer (ap good_state C.back ∙ idle)) n
    ∙ sym (busy_bytes k.transfer y.transfer (good_size k.transfer (ap good_state C.before ∙ idle)) n))
    ∙ sym (calls_left s k l C.before b)

pub calls_standing : CallsStanding
unfolding CallsStanding StandingIsReceived
calls_standing s h F i v l t b p z u =
    ap (λ (w : World). buffer_of u w.held) (calls_world s h l b) ∙ standing_is_received (settings_from s) (world_of h) F i v p l t z u

-- ---- one call of many

-- arrivals that stand one after the other in bytes
arrivals_bytes : (n : ℕ) (a : List ℕ) → Bytes a → AllBytes (arrivals_of n a)
unfolding arrivals_of
arrivals_bytes zero a b = tt
arrivals_bytes (suc n) a b = (
  λ i l.
      let k = length-take 512 a in
      rw (get_or-take 512 a i 0 (omega arith)) (b i (omega arith)),
  arrivals_bytes n (drop 512 a) (λ i l. let k = length-drop 512 a in rw (get_or-drop 512 a i 0) (b (512 + i) (omega arith))),
)

pub calls_are_one_call : CallsAreOneCall
unfolding CallsAreOneCall take_batch batch_of
calls_are_one_call s h a r b =
    let n = fewer (length a / 512) (length r) in
    let l = arrivals_of n a in
    let c = arrivals_bytes n a b in
    record {
      left =
          ap (λ (t : List ℕ). state_with t (receive_all (settings_from s) (world_of h) l)) (sym (calls_transfer s h l c))
          ∙ ap (state_with (call_all s h l).transfer) (sym (calls_world s h l c));
      results = ap (stored_from r 0) (sym (calls_results s h l c));
      all = λ e. rw (le-leb (length a / 512) (length r) e);
      few = λ e. split (leb (length a / 512) (length r)) (λ y. rw y (omega (arith, leb-true (length a / 512) (length r) y))) (λ z. rw z);
    }

-- ---- looks

pub look_is_take : LookIsTake
unfolding LookIsTake LookTells look_bytes take_bytes
look_is_take s h a = ap look_result (look_tells (settings_from s) (world_of h) a)

pub looks_change_nothing : LooksChangeNothing
unfolding LooksChangeNothing play_calls taken_by call_all
looks_change_nothing s h [] = refl
looks_change_nothing s h (looks a ∷ l) = looks_change_nothing s h l
looks_change_nothing s h (takes a ∷ l) = looks_change_nothing s (left_by (call s h a)) l

only_looks : (s : List ℕ) (h : CallerState) (m : List (List ℕ)) → play_calls s h (map looks m) ≡ h
unfolding play_calls
only_looks s h [] = refl
only_looks s h (a ∷ m) = only_looks s h m

then_looks : (s : List ℕ) (h : CallerState) (l : List Call) (m : List (List ℕ)) → play_calls s h (l ++ map looks m) ≡ play_calls s h l
unfolding play_calls
then_looks s h [] m = only_looks s h m
then_looks s h (looks a ∷ l) m = then_looks s h l m
then_looks s h (takes a ∷ l) m = then_looks s (left_by (call s h a)) l m

pub look_then_take : LookThenTake
unfolding LookThenTake LookIsTake
look_then_take s h l a m =
    ap (λ (k : CallerState). (call s k a).result) (then_looks s h l (a ∷ m)) ∙ sym (look_is_take s (play_calls s h l) a)
