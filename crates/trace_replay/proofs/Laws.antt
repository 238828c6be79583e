-- Traces by cases, as the code comes to them. Assumes nothing.
use Prim.Native.Nat.{ℕ, suc, ◌+◌, ◌-◌, ◌*◌, ◌/◌, ◌<◌, ◌≤◌, min}
use mathlib.Core.Path.{◌≡◌, refl, sym, ap, ◌∙◌}
use mathlib.Core.List.{List, [], ◌∷◌}
use native.Mathlib.Numerals.{add-one}
use Rattle.std.specs.Prelude.{Option, Some, None, Ok, Err}
use native.Mathlib.Omega.{arith}
use lib.Dec.{leb}
use lib.ListN.{length, get_or, take, drop, length-take, length-drop, drop_of_length-le}
use lib.Seq.{take_all, drop-drop}
use borrow.Author.Tests.{leb-true, leb-false}
use Rattle.laws.proofs.Tests.{split}
use Rattle.memory.specs.Bitmap.{unmarked}
use Rattle.partitions.specs.declared.Settings.{Settings}
use Rattle.transfer.specs.Transfer.{fresh}
use Rattle.transfer.specs.declared.Transfer.{Transfer}
use Rattle.arrival.specs.Arrive.{Lent, World}
use Rattle.uf2_receiver.specs.Receiver.{lent, world}
use Rattle.trace_piece.specs.declared.PieceError.{PieceError}
use Rattle.trace_piece.specs.declared.PieceError.TheVariants.{Bad, Differs}
use Rattle.trace_piece.specs.declared.Stop.{Stop}
use Rattle.trace_piece.specs.Piece.{is_replayed, stop_of}
use Rattle.trace_replay.specs.Trace.{PieceOutcome, piece_of, piece_return}
use Rattle.trace_piece.proofs.comparing.Laws.{piece_taken}
use Rattle.trace_counts.specs.Tally.{tallied, tally_to}
use Rattle.trace_replay.specs.Replay.{cut, pieces_of, TraceOutcome, trace_outcome, went_on, replay_from, begun, replay_of, before_stop, TallyOutcome, tally_outcome, with_counts}

-- ---- the pieces that are left

pub pieces_none : (l : List ℕ) → length l ≡ 0 → pieces_of l ≡ []
unfolding pieces_of cut
pieces_none l h = let n : (length l + 512) / 513 ≡ 0 = omega arith in rw n

pub pieces_next : (l : List ℕ) → 0 < length l → pieces_of l ≡ take 513 l ∷ pieces_of (drop 513 l)
unfolding pieces_of cut
pieces_next l h =
    let n : (length l + 512) / 513 ≡ suc ((length (drop 513 l) + 512) / 513) = omega (arith, length-drop 513 l) in
    rw n

-- a piece that ends with the trace is all that is left
module _ (l : List ℕ) where
  take_min : take (min 513 (length l)) l ≡ take 513 l
  take_min =
      split (leb 513 (length l))
      (λ y. let e : min 513 (length l) ≡ 513 = omega (arith, leb-true 513 (length l) y) in rw e)
      (λ z.
      let h : length l < 513 = leb-false 513 (length l) z in
      take_all (min 513 (length l)) l (omega arith) ∙ sym (take_all 513 l (omega arith)))

  drop_min : drop (min 513 (length l)) l ≡ drop 513 l
  drop_min =
      split (leb 513 (length l))
      (λ y. let e : min 513 (length l) ≡ 513 = omega (arith, leb-true 513 (length l) y) in rw e)
      (λ z.
      let h : length l < 513 = leb-false 513 (length l) z in
      drop_of_length-le l {i = min 513 (length l)} (omega arith) ∙ sym (drop_of_length-le l {i = 513} (omega arith)))

module _ (trace : List ℕ) (at : ℕ) {to : ℕ} (e : to ≡ at + min 513 (length trace - at)) where
  abbrev rest : List ℕ
  rest = drop at trace

  piece_is : take (to - at) rest ≡ take 513 rest
  piece_is =
      let n : to - at ≡ min 513 (length rest) = rw (length-drop at trace) (omega arith) in
      rw n (take_min rest)

  left_is : drop to trace ≡ drop 513 rest
  left_is =
      let n : to ≡ at + min 513 (length rest) = rw (length-drop at trace) e in
      ap (λ (j : ℕ). drop j trace) n ∙ sym (drop-drop (min 513 (length rest)) at trace) ∙ drop_min rest

-- ---- a trace, from Idle

module _ (s : Settings) (trace : List ℕ) (at i : ℕ) (u : Transfer) (h : Lent) where
  -- what the pieces that are left come to
  abbrev pub left : TraceOutcome
  left = replay_from s i (world u h) (pieces_of (drop at trace))

  module _ (more : at < length trace) {to : ℕ} (e : to ≡ at + min 513 (length trace - at)) {o : PieceOutcome} (q : o ≡ piece_of s (world u h) (take (to - at) (drop at trace))) where
    turned : left ≡ went_on i o (replay_from s (i + 1) o.world (pieces_of (drop to trace)))
    unfolding replay_from
    turned =
        let some : 0 < length (drop at trace) = rw (length-drop at trace) (omega arith) in
        rw (pieces_next (drop at trace) some, ← piece_is trace at e, ← q, left_is trace at e) refl

  -- a piece that is not replayed, and one that is
  pub run_stops : at < length trace → {to : ℕ} → to ≡ at + min 513 (length trace - at) → {x : PieceError} {k : Lent} → piece_return u (Err x) k ≡ piece_of s (world u h) (take (to - at) (drop at trace)) → {y : Option Stop} → y ≡ stop_of (Err x) i → trace_outcome y (world u k) ≡ left
  run_stops more e q hy = sym (turned more e q ∙ rw (← hy) refl)

  pub run_goes_on : at < length trace → {to : ℕ} → to ≡ at + min 513 (length trace - at) → {v : Transfer} {k : Lent} → piece_return u (Ok v) k ≡ piece_of s (world u h) (take (to - at) (drop at trace)) → {next : ℕ} → to ≡ next → replay_from s (i + 1) (world v k) (pieces_of (drop next trace)) ≡ left
  run_goes_on more e {v} {k} q n = ap (λ (j : ℕ). replay_from s (i + 1) (world v k) (pieces_of (drop j trace))) (sym n) ∙ sym (turned more e q)

  pub run_ends : length trace ≤ at → trace_outcome None (world u h) ≡ left
  unfolding replay_from
  run_ends l = let z : length (drop at trace) ≡ 0 = rw (length-drop at trace) (omega arith) in rw (pieces_none (drop at trace) z)

pub from_fresh : (s : Settings) (l trace : List ℕ) (h : Lent) {u : Transfer} {x : TallyOutcome} → x ≡ with_counts l trace (replay_from s 0 (world u h) (pieces_of trace)) → u ≡ fresh → x ≡ with_counts l trace (replay_from s 0 (world fresh h) (pieces_of trace))
from_fresh s l trace h e q = e ∙ ap (λ (u : Transfer). with_counts l trace (replay_from s 0 (world u h) (pieces_of trace))) q

pub run_whole : (s : Settings) (l trace : List ℕ) (h : Lent) {x : TallyOutcome} {m k : List ℕ} → m ≡ unmarked (length h.seen) → k ≡ unmarked (length h.sectors) → x ≡ with_counts l trace (replay_from s 0 (world fresh (lent h.flash m k h.main h.xip)) (pieces_of trace)) → x ≡ with_counts l trace (replay_of s h trace)
unfolding replay_of begun
run_whole s l trace h hm hk e = rw (← hm, ← hk) e

-- ---- the tally

pub tally_none : (l t : List ℕ) → l ≡ tally_to l t 0
unfolding tally_to
tally_none l t = refl

-- one record more
pub tally_more : (l₀ t : List ℕ) (i : ℕ) {l m : List ℕ} → l ≡ tally_to l₀ t i → m ≡ tallied l (get_or t (513 * i) 0) → m ≡ tally_to l₀ t (i + 1)
unfolding tally_to
tally_more l₀ t i h q = q ∙ rw (add-one i, h)

-- a piece that is replayed is whole
pub whole_next : (s : Settings) (u : Transfer) (h : Lent) (t : List ℕ) (i : ℕ) {to : ℕ} {v : Transfer} {k : Lent} → to ≡ 513 * i + min 513 (length t - 513 * i)
    → piece_return u (Ok v) k ≡ piece_of s (world u h) (take (to - 513 * i) (drop (513 * i) t)) → to ≡ 513 * (i + 1)
whole_next s u h t i {to} e q =
    let p = take (to - 513 * i) (drop (513 * i) t) in
    let long = (piece_taken s (world u h) p (ap (λ (o : PieceOutcome). is_replayed o.answer) (sym q))).long in
    omega (arith, e, long, length-take (to - 513 * i) (drop (513 * i) t), length-drop (513 * i) t)

stop_before : (x : PieceError) (n i : ℕ) → before_stop n (stop_of (Err x) i) ≡ i
stop_before Bad n i = refl
stop_before Differs n i = refl

module _ (l₀ t : List ℕ) (i : ℕ) {l : List ℕ} (h : l ≡ tally_to l₀ t i) {o : TraceOutcome} {w : World} where
  -- at a stop, and at the end
  pub tally_stops : (x : PieceError) {y : Option Stop} → y ≡ stop_of (Err x) i → trace_outcome y w ≡ o → tally_outcome (trace_outcome y w) l ≡ with_counts l₀ t o
  unfolding with_counts
  tally_stops x hy e =
      let n : before_stop (length t / 513) o.stop ≡ i = ap (λ (o : TraceOutcome). before_stop (length t / 513) o.stop) (sym e) ∙ ap (before_stop (length t / 513)) hy ∙ stop_before x (length t / 513) i in
      rw (n, ← h, e)

  pub tally_ends : length t ≡ 513 * i → trace_outcome None w ≡ o → tally_outcome (trace_outcome None w) l ≡ with_counts l₀ t o
  unfolding with_counts
  tally_ends a e =
      let n : length t / 513 ≡ i = omega (arith, a) in
      let m : before_stop (length t / 513) o.stop ≡ i = ap (λ (o : TraceOutcome). before_stop (length t / 513) o.stop) (sym e) ∙ n in
      rw (m, ← h, e)

-- without the tally
pub outcome_alone : (l t : List ℕ) {o p : TraceOutcome} {m : List ℕ} → tally_outcome p m ≡ with_counts l t o → p ≡ o
unfolding with_counts
outcome_alone l t e = ap (λ (x : TallyOutcome). x.outcome) e
