-- The claims of specs/Claims.antt hold. Assumes nothing.
use Prim.Native.Nat.{ℕ, zero, suc, ◌+◌, ◌-◌, ◌*◌, ◌/◌, ◌≤◌, ◌<◌}
use mathlib.Core.Path.{◌≡◌, refl, sym, ap, subst, ◌∙◌}
use mathlib.Core.Logic.{◌≢◌}
use mathlib.Core.Bool.{Bool, true, false}
use mathlib.Core.List.{List, [], ◌∷◌, ◌++◌}
use native.Mathlib.Numerals.{add-one}
use Rattle.std.specs.Prelude.{Option, Some, None}
use native.Mathlib.Omega.{arith}
use lib.Dec.{ltb, eqb}
use lib.ListN.{length, get_or, drop, length-take, length-drop, length-append, get_or-eq_default}
use lib.Seq.{drop-drop, take_at, drop_at}
use borrow.Author.Tests.{ltb-true, ltb-false, eqb-true, eqb-false}
use Rattle.laws.specs.Sets.{one}
use Rattle.laws.proofs.Laws.{one_le}
use Rattle.laws.proofs.Tests.{split, clash}
use Rattle.memory.specs.Many.{many}
use Rattle.memory.proofs.fill.Laws.{length_many, get_d_many}
use Rattle.memory.specs.Bitmap.{unmarked}
use Rattle.memory.proofs.bitmap.Laws.{length_unmarked}
use Rattle.partitions.specs.declared.Settings.{Settings}
use Rattle.transfer.specs.Transfer.{number_of}
use Rattle.arrival.specs.Arrive.{Lent, World, receive_of}
use Rattle.arrival.specs.Lists.{receive_all}
use Rattle.trace_piece.specs.Piece.{recorded, is_bad, agrees}
use Rattle.trace_replay.specs.Trace.{piece_of}
use Rattle.trace_replay.specs.Replay.{pieces_of, TraceOutcome, trace_outcome, replay_from, begun, replay_of}
use Rattle.trace_piece.specs.declared.Stop.{Stop}
use Rattle.trace_piece.specs.declared.Stop.TheVariants.{Bad, Differs}
use Rattle.trace_replay.proofs.Laws.{pieces_none, pieces_next}
use Rattle.trace_report.specs.Pieces.{IsRecord, piece_at, arrival_at, arrivals_to, records_before}
use Rattle.trace_report.specs.Claims.{our_record, after, IsOurs, BeginsIdle, StoppedAt, StopIsTheFirst, EndsBeforeTheStop, recording_of, AllWhole, RecordingReplays}
use Rattle.trace_report.proofs.Records.{good, good_record, record_good, not_bad, agree_written, written_agree}

-- ---- what the replay comes to

module _ (s : Settings) (w : World) (p : List ℕ) (l : List (List ℕ)) (i : ℕ) where
  abbrev whole : TraceOutcome
  whole = replay_from s i w (p ∷ l)

  from_bad : is_bad p ≡ true → whole ≡ trace_outcome (Some (Bad i)) w
  unfolding replay_from piece_of
  from_bad b = rw b

  module _ (g : is_bad p ≡ false) where
    from-differs : agrees (recorded p) (receive_of s w (drop 1 p)).answer (receive_of s w (drop 1 p)).discarded ≡ false → whole ≡ trace_outcome (Some (Differs i)) w
    unfolding replay_from piece_of
    from-differs a = rw (g, a)

    from-replayed : agrees (recorded p) (receive_of s w (drop 1 p)).answer (receive_of s w (drop 1 p)).discarded ≡ true
        → whole ≡ replay_from s (i + 1) (receive_of s w (drop 1 p)).world l
    unfolding replay_from piece_of
    from-replayed a = rw (g, a)

from_none : (s : Settings) (i : ℕ) (w : World) → replay_from s i w [] ≡ trace_outcome None w
unfolding replay_from
from_none s i w = refl

-- ---- one arrival more

receive_last : (s : Settings) (w : World) (l : List (List ℕ)) (a : List ℕ) → receive_all s w (l ++ (a ∷ [])) ≡ (receive_of s (receive_all s w l) a).world
unfolding receive_all
receive_last s w [] a = refl
receive_last s w (b ∷ l) a = receive_last s (receive_of s w b).world l a

after_next : (s : Settings) (h : Lent) (t : List ℕ) (i : ℕ) → after s h t (i + 1) ≡ (receive_of s (after s h t i) (arrival_at t i)).world
unfolding arrivals_to
after_next s h t i = rw (add-one i) (receive_last s (begun h) (arrivals_to t i) (arrival_at t i))

-- ---- where it stops

-- a stop that is right, with the end that is right
pub record Right (s : Settings) (h : Lent) (t : List ℕ) (o : TraceOutcome) : Type 0 where
  pub stopped : StoppedAt s h t o.stop
  pub ended : o.world ≡ after s h t (records_before t o.stop)

module _ (s : Settings) (h : Lent) (t : List ℕ) where
  -- what is left of the trace from piece i on
  abbrev from : ℕ → List ℕ
  from i = drop (513 * i) t

  -- the pieces below i are ours, and whole
  pub record Before (i : ℕ) : Type 0 where
    pub ours : (k : ℕ) → k < i → IsOurs s h t k
    pub whole : 513 * i ≤ length t

  long : (i : ℕ) → length (from i) ≡ length t - 513 * i
  long i = length-drop (513 * i) t

  ends : (i : ℕ) → Before i → length t ≤ 513 * i → Right s h t (replay_from s i (after s h t i) (pieces_of (from i)))
  ends i b e =
      let z : length (from i) ≡ 0 = omega (arith, long i) in
      let n : i ≡ length t / 513 = omega (arith, b.whole) in
      rw (pieces_none (from i) z, from_none s i (after s h t i))
      (record { stopped = λ k l. b.ours k (omega arith); ended = ap (after s h t) n })

  module _ (i : ℕ) (b : Before i) (lt : 513 * i < length t) where
    abbrev p : List ℕ
    p = piece_at t i

    abbrev w : World
    w = after s h t i

    abbrev agreed : Bool
    agreed = agrees (recorded p) (receive_of s w (drop 1 p)).answer (receive_of s w (drop 1 p)).discarded

    next : pieces_of (from i) ≡ p ∷ pieces_of (from (i + 1))
    next =
        let some : 0 < length (from i) = omega (arith, long i) in
        let e : 513 * i + 513 ≡ 513 * (i + 1) = omega arith in
        pieces_next (from i) some ∙ ap (λ (l : List ℕ). p ∷ pieces_of l) (drop-drop 513 (513 * i) t ∙ ap (λ (j : ℕ). drop j t) e)

    by_next : {o : TraceOutcome} → replay_from s i w (p ∷ pieces_of (from (i + 1))) ≡ o → Right s h t o → Right s h t (replay_from s i w (pieces_of (from i)))
    by_next e r = subst (Right s h t) (sym (ap (replay_from s i w) next ∙ e)) r

    at-bad : is_bad p ≡ true → Right s h t (replay_from s i w (pieces_of (from i)))
    at-bad y =
        by_next (from_bad s w p (pieces_of (from (i + 1))) i y)
        (record { stopped = (lt, b.ours, λ r. clash (is_bad p) y (record_good p r)); ended = refl })

    module _ (g : is_bad p ≡ false) where
      at-differs : agreed ≡ false → Right s h t (replay_from s i w (pieces_of (from i)))
      at-differs a =
          by_next (from-differs s w p (pieces_of (from (i + 1))) i g a)
          (record {
            stopped = (
              lt,
              b.ours,
              good_record p g,
              λ o. clash agreed (written_agree p (receive_of s w (drop 1 p)).answer (receive_of s w (drop 1 p)).discarded o.1) a,
            );
            ended = refl;
          })

      before-next : agreed ≡ true → Before (i + 1)
      before-next a =
          let size : length p ≡ 513 = (good p g).long in
          let mine : IsOurs s h t i = (size, agree_written p (receive_of s w (drop 1 p)).answer (receive_of s w (drop 1 p)).discarded g a) in
          record {
            ours = λ k l. split (eqb k i)
                (λ e. subst (IsOurs s h t) (sym (eqb-true k i e)) mine)
                (λ z. let d : k ≢ i = eqb-false k i z in b.ours k (omega arith));
            whole = omega (arith, size, length-take 513 (from i), long i);
          }

      at-replayed : agreed ≡ true → Right s h t (replay_from s (i + 1) (after s h t (i + 1)) (pieces_of (from (i + 1)))) → Right s h t (replay_from s i w (pieces_of (from i)))
      at-replayed a r =
          by_next
          (from-replayed s w p (pieces_of (from (i + 1))) i g a
          ∙ ap (λ (v : World). replay_from s (i + 1) v (pieces_of (from (i + 1)))) (sym (after_next s h t i)))
          r

  more : (n i : ℕ) → length t ≤ 513 * (i + n) → Before i → Right s h t (replay_from s i (after s h t i) (pieces_of (from i)))
  more zero i f b = ends i b (omega arith)
  more (suc n) i f b =
      split (ltb (513 * i) (length t))
      (λ y.
      let lt = ltb-true (513 * i) (length t) y in
      split (is_bad (piece_at t i))
      (at-bad i b lt)
      (λ g. split (agreed i b lt)
      (λ a. at-replayed i b lt g a (more n (i + 1) (omega arith) (before-next i b lt g a)))
      (at-differs i b lt g)))
      (λ z. ends i b (ltb-false (513 * i) (length t) z))

  right : Right s h t (replay_of s h t)
  unfolding replay_of arrivals_to receive_all
  right = more (length t) 0 (omega arith) (record { ours = λ k l. absurd (omega arith); whole = omega arith })

  -- ---- no other stop is right

  -- where a stop stands among the pieces
  abbrev index : Option Stop → ℕ
  index None = (length t + 512) / 513
  index (Some (Bad i)) = i
  index (Some (Differs i)) = i

  ours_below : (x : Option Stop) → StoppedAt s h t x → (k : ℕ) → k < index x → IsOurs s h t k
  ours_below None c k l = c k (omega arith)
  ours_below (Some (Bad i)) c k l = c.1 k l
  ours_below (Some (Differs i)) c k l = c.1 k l

  in_trace : (x : Option Stop) → StoppedAt s h t x → index x ≤ (length t + 512) / 513
  in_trace None c = omega arith
  in_trace (Some (Bad i)) c = omega (arith, c.0)
  in_trace (Some (Differs i)) c = omega (arith, c.0)

  ours_record : (k : ℕ) → IsOurs s h t k → IsRecord (piece_at t k)
  ours_record k o =
      let v = receive_of s (after s h t k) (arrival_at t k) in
      record {
        answer = number_of v.answer;
        discarded = one v.discarded;
        arrival = arrival_at t k;
        bit = one_le v.discarded;
        long = omega (arith, length-drop 1 (piece_at t k), o.0);
        is = o.1;
      }

  no_later : (x y : Option Stop) → StoppedAt s h t x → StoppedAt s h t y → index x < index y → ⊥
  no_later None y c d l = omega (arith, in_trace y d)
  no_later (Some (Bad i)) y c d l = c.2 (ours_record i (ours_below y d i l))
  no_later (Some (Differs i)) y c d l = c.3 (ours_below y d i l)

  same_stop : (x y : Option Stop) → StoppedAt s h t x → StoppedAt s h t y → index x ≡ index y → x ≡ y
  same_stop None None c d e = refl
  same_stop None (Some (Bad j)) c d e = absurd (omega (arith, d.0))
  same_stop None (Some (Differs j)) c d e = absurd (omega (arith, d.0))
  same_stop (Some (Bad i)) None c d e = absurd (omega (arith, c.0))
  same_stop (Some (Bad i)) (Some (Bad j)) c d e = ap (λ (k : ℕ). Some (Bad k)) e
  same_stop (Some (Bad i)) (Some (Differs j)) c d e = absurd (c.2 (subst (λ (k : ℕ). IsRecord (piece_at t k)) (sym e) d.2))
  same_stop (Some (Differs i)) None c d e = absurd (omega (arith, c.0))
  same_stop (Some (Differs i)) (Some (Bad j)) c d e = absurd (d.2 (subst (λ (k : ℕ). IsRecord (piece_at t k)) e c.2))
  same_stop (Some (Differs i)) (Some (Differs j)) c d e = ap (λ (k : ℕ). Some (Differs k)) e

  one_stop : (x y : Option Stop) → StoppedAt s h t x → StoppedAt s h t y → x ≡ y
  one_stop x y c d =
      split (ltb (index x) (index y))
      (λ l. absurd (no_later x y c d (ltb-true (index x) (index y) l)))
      (λ m. split (ltb (index y) (index x))
      (λ l. absurd (no_later y x d c (ltb-true (index y) (index x) l)))
      (λ n. same_stop x y c d (omega (arith, ltb-false (index x) (index y) m, ltb-false (index y) (index x) n))))

pub stop_is_the_first : StopIsTheFirst
unfolding StopIsTheFirst
stop_is_the_first s h t x = (
  λ e. subst (StoppedAt s h t) e (right s h t).stopped,
  λ c. one_stop s h t (replay_of s h t).stop x (right s h t).stopped c,
)

pub ends_before_the_stop : EndsBeforeTheStop
unfolding EndsBeforeTheStop
ends_before_the_stop s h t =
    let r = right s h t in
    let x = (replay_of s h t).stop in
    record { world = r.ended; ours = λ k l. ours_below s h t x r.stopped k (below x l) }
  where
    below : (x : Option Stop) {k : ℕ} → k < records_before t x → k < index s h t x
    below None l = omega arith
    below (Some (Bad i)) l = l
    below (Some (Differs i)) l = l

-- ---- a recording of our own

recording_from : (s : Settings) (l : List (List ℕ)) (i : ℕ) (w : World) → AllWhole l → replay_from s i w (pieces_of (recording_of s w l)) ≡ trace_outcome None (receive_all s w l)
unfolding recording_of receive_all
recording_from s [] i w h = ap (replay_from s i w) (pieces_none [] refl) ∙ from_none s i w
recording_from s (a ∷ l) i w h =
    let o = receive_of s w a in
    let q = our_record s w a in
    let rest = recording_of s o.world l in
    let size : length q ≡ 513 = omega (arith, h.0) in
    let bit = one_le o.discarded in
    let g : is_bad q ≡ false = not_bad q size (omega arith) in
    let y : agrees (recorded q) o.answer o.discarded ≡ true = written_agree q o.answer o.discarded refl in
    let e : pieces_of (q ++ rest) ≡ q ∷ pieces_of rest =
    pieces_next (q ++ rest) (omega (arith, length-append q rest))
    ∙ rw (take_at q rest 513 size, drop_at q rest 513 size) in
    ap (replay_from s i w) e
    ∙ from-replayed s w q (pieces_of rest) i g y
    ∙ recording_from s l (i + 1) o.world h.1

pub recording_replays : RecordingReplays
unfolding RecordingReplays replay_of
recording_replays s h l a = recording_from s l 0 (begun h) a

-- ---- how it begins

no_byte : (n k : ℕ) → get_or (unmarked n) k 0 ≡ 0
unfolding unmarked
no_byte n k =
    split (ltb k n)
    (λ y. get_d_many n 0 k (ltb-true k n y))
    (λ z. get_or-eq_default (many n 0) 0 {n = k} (rw (length_many n 0) (ltb-false k n z)))

pub begins_idle : BeginsIdle
unfolding BeginsIdle begun
begins_idle h =
    record {
      idle = refl;
      flash = refl;
      seen = no_byte (length h.seen);
      seen_length = length_unmarked (length h.seen);
      sectors = no_byte (length h.sectors);
      sectors_length = length_unmarked (length h.sectors);
      main = refl;
      xip = refl;
    }
