-- The end of a replay: a running transfer has a number that is missing. Assumes nothing.
use Prim.Native.Nat.{ℕ, zero, suc, ◌+◌, ◌-◌, ◌*◌, ◌≤◌, ◌<◌}
use mathlib.Core.Path.{◌≡◌, refl, sym, ap, ◌∙◌}
use mathlib.Core.Bool.{Bool, true, false, not, cond}
use mathlib.Core.List.{List, [], ◌∷◌}
use native.Mathlib.Omega.{arith}
use lib.Dec.{ltb, leb}
use lib.ListN.{length}
use borrow.Author.Tests.{ltb-true, leb-true, leb-false}
use Rattle.laws.specs.Sets.{Set, size, any, least}
use Rattle.laws.proofs.Tests.{split, clash}
use Rattle.laws.proofs.Laws.{any_all, least_below}
use Rattle.memory.specs.Bitmap.{marked_in, marks}
use Rattle.memory.proofs.bitmap.Laws.{marked_past}
use Rattle.partitions.specs.declared.Settings.{Settings}
use Rattle.transfer.specs.Transfer.{count_of, counted, accepted}
use Rattle.transfer.specs.declared.Head.{Head}
use Rattle.transfer.specs.declared.Run.{Run}
use Rattle.transfer.specs.declared.State.{State}
use Rattle.transfer.specs.declared.State.TheVariants.{Idle, Running, Done}
use Rattle.memory.specs.Flash.{payload_of}
use Rattle.arrival.specs.Arrive.{Lent, World, Decision, accept_of, done, receive_of}
use Rattle.arrival.specs.Lists.{receive_all}
use Rattle.arrival_claims.specs.Tally.{clears}
use Rattle.arrival_claims.proofs.DecisionFacts.{DecisionFacts, refused, took, decision_facts}
use Rattle.trace_replay.specs.Replay.{begun, replay_of}
use Rattle.trace_report.specs.Claims.{EndsBeforeTheStop}
use Rattle.trace_report.proofs.Replays.{ends_before_the_stop}
use Rattle.trace_counts.specs.Counts.{is_missing, missing_at}
use Rattle.trace_report.proofs.adding.Adds.{replay_count}
use Rattle.trace_claims.specs.Claims.{arrivals_in, MissingFacts}

-- ---- the count of a running transfer is below its total

abbrev below : State → Bool
below Idle = true
below (Running r) = ltb r.count r.head.total
below (Done g) = true

below_counted : (g : Head) (c : ℕ) → below (counted g c) ≡ true
unfolding counted
below_counted g c = split (ltb c g.total) (λ y. rw (y, y)) (λ z. rw z)

below_by : (s : Settings) (w : World) (a : List ℕ) {d : Decision} → DecisionFacts s w a d → below w.transfer ≡ true → below (done w (payload_of a) d).world.transfer ≡ true
unfolding done accept_of accepted
below_by s w a (refused x h) e = e
below_by s w a (took g k B l q t) e =
    rw t.is (below_counted g.head (cond (clears w.transfer g.head) 1 (count_of w.transfer + 1)))

below_all : (s : Settings) (l : List (List ℕ)) (w : World) → below w.transfer ≡ true → below (receive_all s w l).transfer ≡ true
unfolding receive_all receive_of
below_all s [] w e = e
below_all s (a ∷ l) w e = below_all s l (receive_of s w a).world (below_by s w a (decision_facts s w a) e)

below_end : (s : Settings) (h : Lent) (t : List ℕ) → below (replay_of s h t).world.transfer ≡ true
unfolding EndsBeforeTheStop
below_end s h t = rw (ends_before_the_stop s h t).world (below_all s (arrivals_in s h t) (begun h) (unfold begun in refl))

-- ---- so some number below the total is not marked

-- all numbers below n are counted
size_all : (n : ℕ) (S : Set) → ((j : ℕ) → j < n → S j ≡ true) → size n S ≡ n
unfolding size
size_all zero S f = refl
size_all (suc n) S f = rw (f n (omega arith), size_all n S (λ j l. f j (omega arith))) (omega arith)

-- one bound more
size_next : (n : ℕ) (S : Set) → size n S ≤ size (suc n) S
unfolding size
size_next n S = omega arith

size_up : (k n : ℕ) (S : Set) → size n S ≤ size (n + k) S
size_up zero n S = let e : n + 0 ≡ n = omega arith in rw e (omega arith)
size_up (suc k) n S = let e : n + suc k ≡ suc (n + k) = omega arith in rw e (omega (arith, size_up k n S, size_next (n + k) S))

-- no more than all marks are marks below n
marks_below : (m : List ℕ) (n : ℕ) → ((j : ℕ) → j < n → marked_in m j ≡ true) → n ≤ marks m
unfolding marks
marks_below m n f =
    split (leb n (length m * 8))
    (λ y.
    let l : n ≤ length m * 8 = leb-true n (length m * 8) y in
    let e : n + (length m * 8 - n) ≡ length m * 8 = omega arith in
    let u = size_up (length m * 8 - n) n (marked_in m) in
    let v : size n (marked_in m) ≤ size (length m * 8) (marked_in m) = rw e at u in
    omega (arith, v, size_all n (marked_in m) f))
    (λ z.
    let l : length m * 8 < n = leb-false n (length m * 8) z in
    clash (marked_in m (length m * 8)) (f (length m * 8) l) (marked_past m (length m * 8) (omega arith)))

marked_back : (b : Bool) → not b ≡ true → b ≡ false
marked_back true e = clash false e refl
marked_back false e = refl

marked_here : (b : Bool) → not b ≡ false → b ≡ true
marked_here true e = refl
marked_here false e = clash true refl e

has_missing : (m : List ℕ) (n : ℕ) → marks m < n → any n (is_missing m) ≡ true
has_missing m n l =
    split (any n (is_missing m))
    (λ y. y)
    (λ z. absurd (omega (arith, marks_below m n (λ j b. marked_here (marked_in m j) (any_all (is_missing m) n z j b)))))

-- ---- what is missing

module _ (s : Settings) (h : Lent) (t : List ℕ) where
  abbrev end_world : World
  end_world = (replay_of s h t).world

  running_missing : (r : Run) → end_world.transfer ≡ Running r → any r.head.total (is_missing end_world.seen) ≡ true
  running_missing r e =
      let less : ltb r.count r.head.total ≡ true = sym (ap below e) ∙ below_end s h t in
      let same : r.count ≡ marks end_world.seen = sym (ap count_of e) ∙ replay_count s h t in
      has_missing end_world.seen r.head.total (omega (arith, same, ltb-true r.count r.head.total less))

  missing_by : (x : State) → end_world.transfer ≡ x → MissingFacts end_world (missing_at x end_world.seen)
  missing_by Idle e = λ r q. idle-run r (sym e ∙ q)
    where
      idle-run : (r : Run) → Idle ≡ Running r → ⊥
      idle-run r q = let z : ◌≡◌ {A = ℕ} 0 1 = cc in omega arith
  missing_by (Running r) e =
      let m = end_world.seen in
      let b = least_below (is_missing m) r.head.total (running_missing r e) in
      (r, e, b.0, marked_back (marked_in m (least r.head.total (is_missing m))) b.1, λ j l. marked_here (marked_in m j) (any_all (is_missing m) (least r.head.total (is_missing m)) b.2 j l))
  missing_by (Done g) e = λ r q. done-run r (sym e ∙ q)
    where
      done-run : (r : Run) → Done g ≡ Running r → ⊥
      done-run r q = let z : ◌≡◌ {A = ℕ} 0 1 = cc in omega arith

  pub missing_facts : MissingFacts end_world (missing_at end_world.transfer end_world.seen)
  missing_facts = missing_by end_world.transfer refl
