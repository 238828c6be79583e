-- What a replay adds: the bytes of its records are our answers, and as many numbers are marked as the transfer counts. Assumes nothing.
use Prim.Native.Nat.{ℕ, zero, suc, ◌+◌, ◌*◌, ◌/◌, ◌%◌, ◌≤◌, ◌<◌}
use mathlib.Core.Path.{◌≡◌, refl, sym, ap, subst, ◌∙◌}
use mathlib.Core.Logic.{◌≢◌}
use mathlib.Core.Bool.{true, false}
use mathlib.Core.List.{List, [], ◌∷◌, ◌++◌, map, map-append}
use native.Mathlib.Nat.{add-zero}
use Rattle.std.specs.Prelude.{Option, Some, None, Ok, Err}
use native.Mathlib.Omega.{arith}
use lib.Dec.{leb, eqb}
use lib.ListN.{length, get_or, drop, length-append, length-take, length-drop}
use lib.Seq.{get_or-take, get_or-drop}
use borrow.Author.Tests.{leb-true, leb-false, eqb-true}
use Rattle.laws.specs.Sets.{one, none}
use Rattle.laws.proofs.Tests.{split, or_left, or_right, and_left, and_right}
use Rattle.laws.proofs.Laws.{one_le, size_none}
use Rattle.memory.specs.Bitmap.{unmarked, marks}
use Rattle.memory.proofs.bitmap.MapLaws.{map_none, marks_map}
use Rattle.partitions.specs.declared.Settings.{Settings}
use Rattle.transfer.specs.Transfer.{number_of, count_of}
use Rattle.transfer.specs.declared.State.TheVariants.{Idle}
use Rattle.transfer.specs.declared.Transfer.{Transfer}
use Rattle.transfer.specs.declared.Answer.{Answer}
use Rattle.transfer.specs.declared.Answer.TheVariants.{BadBuffers, BadSettings, BadState, NotBlock, Container, NoFamily, NoPlace, BadPayload, BadNumbers, BadAddress, Finished, Again, Written, Completed, Noted, Kept}
use Rattle.arrival.specs.Arrive.{Lent, World, Outcome, lent_of, receive_of}
use Rattle.arrival.specs.Lists.{receive_all, answers_of, discards_of, Delivery, play_all}
use Rattle.arrival_claims.specs.Bounds.{RefusalsChangeNothing}
use Rattle.arrival_claims.specs.Tally.{is_accepted, any_accepted, CountIsMarks}
use Rattle.arrival_claims.proofs.Bounds.{refusals_change_nothing}
use Rattle.arrival_claims.proofs.Tally.{count_is_marks}
use Rattle.uf2_receiver.specs.Receiver.{world}
use Rattle.trace_piece.specs.declared.Stop.{Stop}
use Rattle.trace_piece.specs.declared.Stop.TheVariants.{Bad, Differs}
use Rattle.trace_counts.specs.declared.Report.{Report}
use Rattle.trace_counts.specs.Counts.{sum_to, good_report, with_room, how_many_yes, recorded_at, tally_to, with_tally, ended_of}
use Rattle.trace_replay.specs.Replay.{TraceOutcome, trace_outcome, begun, replay_of, before_stop, TallyOutcome, tally_outcome, with_counts}
use Rattle.trace_report.specs.Pieces.{piece_at, arrival_at, arrivals_to, records_before}
use Rattle.trace_report.specs.Claims.{after, IsOurs, EndsBeforeTheStop}
use Rattle.trace_report.proofs.Replays.{ends_before_the_stop}
use Rattle.trace_counts.specs.declared.ReportError.TheVariants.{BadReport, TooMany}
use Rattle.trace_report.specs.Report.{replayed_in, added_to, FiguresOutcome, figures_outcome, add_of}
use Rattle.trace_report.specs.Counting.{tallied_by, replayed_by}
use Rattle.trace_report.proofs.adding.Counted.{numbers_to, discards_to, Countable, counted_of, zeros, tally_is}

-- ---- the numbers of our answers

pub number_range : (x : Answer) → (1 ≤ number_of x) × (number_of x ≤ 17) × (number_of x ≢ 6)
number_range BadBuffers = (omega arith, omega arith, λ e. omega (arith, e))
number_range BadSettings = (omega arith, omega arith, λ e. omega (arith, e))
number_range BadState = (omega arith, omega arith, λ e. omega (arith, e))
number_range NotBlock = (omega arith, omega arith, λ e. omega (arith, e))
number_range Container = (omega arith, omega arith, λ e. omega (arith, e))
number_range NoFamily = (omega arith, omega arith, λ e. omega (arith, e))
number_range NoPlace = (omega arith, omega arith, λ e. omega (arith, e))
number_range BadPayload = (omega arith, omega arith, λ e. omega (arith, e))
number_range BadNumbers = (omega arith, omega arith, λ e. omega (arith, e))
number_range BadAddress = (omega arith, omega arith, λ e. omega (arith, e))
number_range Finished = (omega arith, omega arith, λ e. omega (arith, e))
number_range Again = (omega arith, omega arith, λ e. omega (arith, e))
number_range Written = (omega arith, omega arith, λ e. omega (arith, e))
number_range Completed = (omega arith, omega arith, λ e. omega (arith, e))
number_range Noted = (omega arith, omega arith, λ e. omega (arith, e))
number_range Kept = (omega arith, omega arith, λ e. omega (arith, e))

-- ---- lists with one arrival more

module _ (s : Settings) where
  answers_last : (w : World) (l : List (List ℕ)) (a : List ℕ) → answers_of s w (l ++ (a ∷ [])) ≡ answers_of s w l ++ ((receive_of s (receive_all s w l) a).answer ∷ [])
  unfolding answers_of receive_all
  answers_last w [] a = refl
  answers_last w (b ∷ l) a = rw (answers_last (receive_of s w b).world l a)

  yes_last : (w : World) (l : List (List ℕ)) (a : List ℕ) → how_many_yes (discards_of s w (l ++ (a ∷ []))) ≡ how_many_yes (discards_of s w l) + one (receive_of s (receive_all s w l) a).discarded
  unfolding discards_of receive_all how_many_yes
  yes_last w [] a = omega arith
  yes_last w (b ∷ l) a = rw (yes_last (receive_of s w b).world l a) (omega arith)

pub length_arrivals : (t : List ℕ) (n : ℕ) → length (arrivals_to t n) ≡ n
unfolding arrivals_to
length_arrivals t zero = refl
length_arrivals t (suc n) = rw (length-append (arrivals_to t n) (arrival_at t n ∷ []), length_arrivals t n) (omega arith)

before_is : (t : List ℕ) (x : Option Stop) → before_stop (length t / 513) x ≡ records_before t x
before_is t None = refl
before_is t (Some (Bad i)) = refl
before_is t (Some (Differs i)) = refl

-- ---- records of ours

module _ (s : Settings) (h : Lent) (t : List ℕ) where
  abbrev ours : ℕ → Outcome
  ours k = receive_of s (after s h t k) (arrival_at t k)

  byte_is : (k : ℕ) → IsOurs s h t k → recorded_at t k ≡ number_of (ours k).answer * 8 + one (ours k).discarded * 4
  byte_is k o =
      let e : get_or (piece_at t k) 0 0 ≡ recorded_at t k =
      get_or-take 513 (drop (513 * k) t) 0 0 (omega arith)
      ∙ get_or-drop (513 * k) t 0 0
      ∙ ap (λ (j : ℕ). get_or t j 0) (add-zero (513 * k)) in
      sym e ∙ ap (λ (l : List ℕ). get_or l 0 0) o.1

  answer_is : (k : ℕ) → IsOurs s h t k → recorded_at t k / 8 ≡ number_of (ours k).answer
  answer_is k o = omega (arith, byte_is k o, one_le (ours k).discarded)

  discard_is : (k : ℕ) → IsOurs s h t k → recorded_at t k / 4 % 2 ≡ one (ours k).discarded
  discard_is k o = omega (arith, byte_is k o, one_le (ours k).discarded)

  numbers_are : (n : ℕ) → ((k : ℕ) → k < n → IsOurs s h t k) → numbers_to t n ≡ map number_of (answers_of s (begun h) (arrivals_to t n))
  unfolding numbers_to arrivals_to answers_of
  numbers_are zero f = refl
  numbers_are (suc n) f =
      rw (numbers_are n (λ k l. f k (omega arith)), answer_is n (f n (omega arith)), answers_last s (begun h) (arrivals_to t n) (arrival_at t n))
      (sym (map-append number_of (answers_of s (begun h) (arrivals_to t n)) ((ours n).answer ∷ [])))

  discards_are : (n : ℕ) → ((k : ℕ) → k < n → IsOurs s h t k) → discards_to t n ≡ how_many_yes (discards_of s (begun h) (arrivals_to t n))
  unfolding discards_to arrivals_to discards_of how_many_yes
  discards_are zero f = refl
  discards_are (suc n) f =
      rw (discards_are n (λ k l. f k (omega arith)), discard_is n (f n (omega arith)), yes_last s (begun h) (arrivals_to t n) (arrival_at t n))

  whole : (n : ℕ) → ((k : ℕ) → k < n → IsOurs s h t k) → 513 * n ≤ length t
  whole zero f = omega arith
  whole (suc n) f = omega (arith, (f n (omega arith)).0, length-take 513 (drop (513 * n) t), length-drop (513 * n) t)

  -- the records before the stop
  abbrev replayed : ℕ
  replayed = records_before t (replay_of s h t).stop

  each_ours : (k : ℕ) → k < replayed → IsOurs s h t k
  unfolding EndsBeforeTheStop
  each_ours = (ends_before_the_stop s h t).ours

  countable : (r : Report) → good_report r ≡ true → with_room r (length t / 513) ≡ true → Countable r t replayed
  unfolding good_report with_room
  countable r g m =
      let long = whole replayed each_ours in
      record {
        ours = λ k l. let b = number_range (ours k).answer in rw (answer_is k (each_ours k l)) b;
        sum = eqb-true (sum_to 16 r.counts) r.records (and_left (eqb (sum_to 16 r.counts) r.records) (leb r.discards r.records) g);
        few = leb-true r.discards r.records (and_right (eqb (sum_to 16 r.counts) r.records) (leb r.discards r.records) g);
        room = omega (arith, long, leb-true (r.records + length t / 513) 4294967295 m);
      }

-- ---- the count is the marks

abbrev delivered : Settings → List ℕ → Delivery
delivered s a = record { settings = s; arrival = a }

play_is : (s : Settings) (l : List (List ℕ)) (w : World) → play_all w (map (delivered s) l) ≡ receive_all s w l
unfolding play_all receive_all
play_is s [] w = refl
play_is s (a ∷ l) w = play_is s l (receive_of s w a).world

none_accepted : (l : List Delivery) (w : World) → any_accepted w l ≡ false → play_all w l ≡ w
unfolding any_accepted play_all RefusalsChangeNothing
none_accepted [] w e = refl
none_accepted (d ∷ l) w e =
    let o = receive_of d.settings w d.arrival in
    let low : number_of o.answer ≤ 13 = omega (arith, leb-false 14 (number_of o.answer) (or_left (is_accepted o.answer) (any_accepted o.world l) e)) in
    let stay : o.world ≡ w = ap (λ (y : Outcome). y.world) (refusals_change_nothing d.settings w d.arrival low) in
    let rest : any_accepted w l ≡ false = subst (λ (v : World). any_accepted v l ≡ false) stay (or_right (is_accepted o.answer) (any_accepted o.world l) e) in
    ap (λ (v : World). play_all v l) stay ∙ none_accepted l w rest

no_marks_lem : (n : ℕ) → marks (unmarked n) ≡ 0
no_marks_lem n = ap marks (map_none n) ∙ marks_map n none ∙ size_none (n * 8)

-- from Idle with no mark
count_marks : (s : Settings) (l : List (List ℕ)) (w : World) → w.transfer ≡ Idle → marks w.seen ≡ 0
    → count_of (receive_all s w l).transfer ≡ marks (receive_all s w l).seen
unfolding CountIsMarks
count_marks s l w idle z =
    let d = map (delivered s) l in
    subst (λ (v : World). count_of v.transfer ≡ marks v.seen) (play_is s l w)
    (split (any_accepted w d)
    (λ y. (count_is_marks w idle d).marked y)
    (λ n. rw (none_accepted d w n, idle) (sym z)))

pub replay_count : (s : Settings) (h : Lent) (t : List ℕ) → count_of (replay_of s h t).world.transfer ≡ marks (replay_of s h t).world.seen
unfolding EndsBeforeTheStop
replay_count s h t =
    rw (ends_before_the_stop s h t).world
    (count_marks s (replayed_in s h t) (begun h) (unfold begun in refl) (unfold begun in no_marks_lem (length h.seen)))

-- ---- a call

module _ (r : Report) (s : Settings) (h : Lent) (t : List ℕ) where
  pub add_bad : good_report r ≡ false → figures_outcome (Err BadReport) r h ≡ add_of r s h t
  unfolding add_of
  add_bad g = rw g

  pub add_many : good_report r ≡ true → with_room r (length t / 513) ≡ false → figures_outcome (Err TooMany) r h ≡ add_of r s h t
  unfolding add_of
  add_many g m = rw (g, m)

  -- the records are counted, and the end is the replay's
  tallied_is : good_report r ≡ true → with_room r (length t / 513) ≡ true → tallied_by r t (replay_of s h t) ≡ added_to r s h t
  unfolding tallied_by ended_of added_to
  tallied_is g m =
      let n = replayed s h t in
      let f = each_ours s h t in
      rw (before_is t (replay_of s h t).stop, tally_is r t n (countable s h t r g m), length_arrivals t n, ← numbers_are s h t n f, ← discards_are s h t n f, ← replay_count s h t)
      (unfold counted_of in refl)

  pub add_replayed : {o : FiguresOutcome} → good_report r ≡ true → with_room r (length t / 513) ≡ true → o ≡ replayed_by r s h t → o ≡ add_of r s h t
  unfolding add_of replayed_by
  add_replayed g m e = e ∙ rw (g, m, tallied_is g m)

-- ---- a trace that is replayed, as the code comes to it

module _ (r : Report) (s : Settings) (h : Lent) (t : List ℕ) {x : Option Stop} {u : Transfer} {k : Lent} {l : List ℕ} (e : tally_outcome (trace_outcome x (world u k)) l ≡ with_counts zeros t (replay_of s h t)) where
  alone : trace_outcome x (world u k) ≡ replay_of s h t
  unfolding with_counts
  alone = ap (λ (o : TallyOutcome). o.outcome) e

  stop_alone : x ≡ (replay_of s h t).stop
  stop_alone = ap (λ (o : TraceOutcome). o.stop) alone

  counts_alone : l ≡ tally_to zeros t (before_stop (length t / 513) x)
  unfolding with_counts
  counts_alone = ap (λ (o : TallyOutcome). o.tally) e ∙ ap (λ (y : Option Stop). tally_to zeros t (before_stop (length t / 513) y)) (sym stop_alone)

  pub replayed_is : {n : ℕ} {c d : Report} → n ≡ before_stop (length t / 513) x → c ≡ with_tally r l n → d ≡ ended_of c u.state k.seen → figures_outcome (Ok x) d k ≡ replayed_by r s h t
  unfolding replayed_by tallied_by
  replayed_is hn hc hd =
      rw (hd, hc, counts_alone, hn)
      (ap (λ (o : TraceOutcome). figures_outcome (Ok o.stop) (ended_of (with_tally r (tally_to zeros t (before_stop (length t / 513) o.stop)) (before_stop (length t / 513) o.stop)) o.world.transfer o.world.seen) (lent_of o.world)) alone)
