-- The claims of specs/Claims.antt hold. Assumes nothing.
use Prim.Native.Nat.{ℕ, ◌+◌, ◌/◌, ◌≤◌, ◌<◌}
use mathlib.Core.Path.{◌≡◌, refl, sym, ap, subst, ◌∙◌}
use mathlib.Core.Bool.{Bool, true, false}
use mathlib.Core.List.{List, [], ◌∷◌, map}
use native.Mathlib.Omega.{arith}
use Rattle.std.specs.Prelude.{Option, Result, Ok, Err}
use lib.Dec.{leb, eqb}
use lib.ListN.{length, get_or, length-append, get_or-replicate}
use borrow.Author.Tests.{leb-true, leb-false, le-leb, lt-leb, eqb-true, eq-eqb}
use Rattle.laws.proofs.Tests.{split, clash, and_left, and_right}
use Rattle.partitions.specs.declared.Settings.{Settings}
use Rattle.transfer.specs.Transfer.{number_of}
use Rattle.transfer.specs.declared.Answer.{Answer}
use Rattle.arrival.specs.Arrive.{Lent, lent_of}
use Rattle.arrival.specs.Lists.{answers_of, discards_of}
use Rattle.trace_replay.specs.Replay.{begun, replay_of}
use Rattle.trace_piece.specs.declared.Stop.{Stop}
use Rattle.trace_counts.specs.declared.Report.{Report}
use Rattle.trace_counts.specs.declared.ReportError.{ReportError}
use Rattle.trace_counts.specs.declared.ReportError.TheVariants.{BadReport, TooMany}
use Rattle.trace_counts.specs.Counts.{fresh_report, sum_to, good_report, with_room, count_all}
use Rattle.trace_report.specs.Report.{added_to, FiguresOutcome, figures_outcome, figures_number, add_of}
use Rattle.trace_report.proofs.adding.Adds.{replay_count}
use Rattle.trace_claims.specs.Claims.{sum_of, Sound, Refused71, Refused70, ReportNumbers, ElseReplayed, RefusalsLeaveAll, times_of, times_yes, place_of, count_in, arrivals_in, Adds, ReplayAdds, EndFacts, ReplayEnds, Job, done_by, add_all, told_by, all_answers, all_discards, FromFresh}
use Rattle.trace_claims.proofs.Counts.{place_is, place_low, sum_is, yes_is, length_all, counts_at, sum_at, times_append, yes_append, yes_most, length_answers, length_discards}
use Rattle.trace_claims.proofs.Ends.{missing_facts}

-- ---- a good report is a sound one

sound_good : (r : Report) → Sound r → good_report r ≡ true
unfolding good_report
sound_good r c = rw (eq-eqb (sum_to 16 r.counts) r.records (sum_is r.counts c.slots ∙ c.sums), le-leb r.discards r.records c.discards)

good_sound : (r : Report) → length r.counts ≡ 16 → good_report r ≡ true → Sound r
unfolding good_report
good_sound r l g =
    let a = eqb (sum_to 16 r.counts) r.records in
    let b = leb r.discards r.records in
    record {
      slots = l;
      sums = sym (sum_is r.counts l) ∙ eqb-true (sum_to 16 r.counts) r.records (and_left a b g);
      discards = leb-true r.discards r.records (and_right a b g);
    }

-- ---- what a call comes to, by its two tests

module _ (r : Report) (s : Settings) (h : Lent) (t : List ℕ) where
  abbrev call : FiguresOutcome
  call = add_of r s h t

  abbrev room : Bool
  room = with_room r (length t / 513)

  -- the outcome of a trace that is replayed
  abbrev full : FiguresOutcome
  full = figures_outcome (Ok (replay_of s h t).stop) (added_to r s h t) (lent_of (replay_of s h t).world)

  is_bad_lem : good_report r ≡ false → call ≡ figures_outcome (Err BadReport) r h
  unfolding add_of
  is_bad_lem g = rw g

  is_many : good_report r ≡ true → room ≡ false → call ≡ figures_outcome (Err TooMany) r h
  unfolding add_of
  is_many g m = rw (g, m)

  is_full : good_report r ≡ true → room ≡ true → call ≡ full
  unfolding add_of
  is_full g m = rw (g, m)

  -- by the number of the answer
  number_bad : good_report r ≡ false → figures_number call.answer ≡ 71
  number_bad g = ap (λ (o : FiguresOutcome). figures_number o.answer) (is_bad_lem g)

  number_many : good_report r ≡ true → room ≡ false → figures_number call.answer ≡ 70
  number_many g m = ap (λ (o : FiguresOutcome). figures_number o.answer) (is_many g m)

  number_full : good_report r ≡ true → room ≡ true → figures_number call.answer ≡ 0
  number_full g m = ap (λ (o : FiguresOutcome). figures_number o.answer) (is_full g m)

  if_71 : figures_number call.answer ≡ 71 → good_report r ≡ false
  if_71 e =
      split (good_report r)
      (λ g. split room (λ m. absurd (omega (arith, number_full g m))) (λ m. absurd (omega (arith, number_many g m))))
      (λ g. g)

  if_70 : figures_number call.answer ≡ 70 → (good_report r ≡ true) × (room ≡ false)
  if_70 e =
      split (good_report r)
      (λ g. split room (λ m. absurd (omega (arith, number_full g m))) (λ m. (g, m)))
      (λ g. absurd (omega (arith, number_bad g)))

  if_0 : figures_number call.answer ≡ 0 → (good_report r ≡ true) × (room ≡ true)
  if_0 e =
      split (good_report r)
      (λ g. split room (λ m. (g, m)) (λ m. absurd (omega (arith, number_many g m))))
      (λ g. absurd (omega (arith, number_bad g)))

  if_replayed : {x : Option Stop} → call.answer ≡ Ok x → call ≡ full
  if_replayed e = let b = if_0 (ap figures_number e) in is_full b.0 b.1

  room_few : room ≡ true → r.records + length t / 513 ≤ 4294967295
  unfolding with_room
  room_few m = leb-true (r.records + length t / 513) 4294967295 m

  few_room : r.records + length t / 513 ≤ 4294967295 → room ≡ true
  unfolding with_room
  few_room l = le-leb (r.records + length t / 513) 4294967295 l

  room_many : room ≡ false → 4294967295 < r.records + length t / 513
  unfolding with_room
  room_many m = leb-false (r.records + length t / 513) 4294967295 m

  many_room : 4294967295 < r.records + length t / 513 → room ≡ false
  unfolding with_room
  many_room l = lt-leb (r.records + length t / 513) 4294967295 l

pub refused_71 : Refused71
unfolding Refused71
refused_71 r s h t l = (
  λ e c. clash (good_report r) (sound_good r c) (if_71 r s h t (ap figures_number e)),
  λ n. split (good_report r)
      (λ g. absurd (n (good_sound r l g)))
      (λ g. ap (λ (o : FiguresOutcome). o.answer) (is_bad_lem r s h t g)),
)

pub refused_70 : Refused70
unfolding Refused70
refused_70 r s h t l = (
  λ e. let b = if_70 r s h t (ap figures_number e) in (good_sound r l b.0, omega (arith, room_many r s h t b.1)),
  λ b. ap (λ (o : FiguresOutcome). o.answer) (is_many r s h t (sound_good r b.0) (many_room r s h t (omega (arith, b.1)))),
)

pub report_numbers : ReportNumbers
unfolding ReportNumbers
report_numbers = refl

pub else_replayed : ElseReplayed
unfolding ElseReplayed
else_replayed r s h t c l =
    ap (λ (o : FiguresOutcome). o.answer) (is_full r s h t (sound_good r c) (few_room r s h t l))

pub refusals_leave_all : RefusalsLeaveAll
unfolding RefusalsLeaveAll
refusals_leave_all r s h t n =
    split (good_report r)
    (λ g. split (room r s h t)
    (λ m. absurd (n (replay_of s h t).stop (ap (λ (o : FiguresOutcome). o.answer) (is_full r s h t g m))))
    (λ m. left (is_many r s h t g m)))
    (λ g. left (is_bad_lem r s h t g))
  where
    left : {x : Result (Option Stop) ReportError} → add_of r s h t ≡ figures_outcome x r h → ((add_of r s h t).report ≡ r) × ((add_of r s h t).lent ≡ h)
    left e = (ap (λ (o : FiguresOutcome). o.report) e, ap (λ (o : FiguresOutcome). o.lent) e)

-- ---- one trace

module _ (r : Report) (s : Settings) (h : Lent) (t : List ℕ) where
  adds : Sound r → Adds r s h t (added_to r s h t)
  unfolding added_to
  adds c =
      let l = arrivals_in s h t in
      let answers = answers_of s (begun h) l in
      let discards = discards_of s (begun h) l in
      let n = length_answers s l (begun h) in
      let slots = length_all r.counts (map number_of answers) ∙ c.slots in
      let sums = sum_at answers r.counts c.slots in
      let was = sum_is r.counts c.slots in
      let is = sum_is (count_all r.counts (map number_of answers)) slots in
      record {
        sound =
            record {
              slots = slots;
              sums = omega (arith, sums, was, is, n, c.sums);
              discards = omega (arith, yes_is discards, yes_most discards, length_discards s l (begun h), c.discards);
            };
        records = refl;
        counts = λ x.
            subst (λ (k : ℕ). get_or (count_all r.counts (map number_of answers)) k 0 ≡ get_or r.counts k 0 + times_of x answers)
            (place_is x) (counts_at answers r.counts c.slots x);
        discards = ap (λ (k : ℕ). r.discards + k) (yes_is discards);
      }

  ends : EndFacts (replay_of s h t).world (added_to r s h t)
  unfolding added_to
  ends = record { marked = refl; count = sym (replay_count s h t); missing = missing_facts s h t }

pub replay_adds : ReplayAdds
unfolding ReplayAdds
replay_adds r s h t x c e =
    subst (λ (o : FiguresOutcome). Adds r s h t o.report) (sym (if_replayed r s h t e)) (adds r s h t c)

pub replay_ends : ReplayEnds
unfolding ReplayEnds
replay_ends r s h t x e =
    subst (λ (o : FiguresOutcome). EndFacts (replay_of s h t).world o.report) (sym (if_replayed r s h t e)) (ends r s h t)

-- ---- many traces

-- what a list adds to a sound report
pub record AddsAll (r : Report) (l : List Job) (q : Report) : Type 0 where
  pub sound : Sound q
  pub records : q.records ≡ r.records + length (all_answers r l)
  pub counts : (x : Answer) → count_in q x ≡ count_in r x + times_of x (all_answers r l)
  pub discards : q.discards ≡ r.discards + times_yes (all_discards r l)

-- one call adds what it tells
pub record AddsOne (r : Report) (j : Job) (o : FiguresOutcome) : Type 0 where
  pub sound : Sound o.report
  pub records : o.report.records ≡ r.records + length (told_by (answers_of j.settings (begun j.lent) (arrivals_in j.settings j.lent j.trace)) o.answer)
  pub counts : (x : Answer) → count_in o.report x ≡ count_in r x + times_of x (told_by (answers_of j.settings (begun j.lent) (arrivals_in j.settings j.lent j.trace)) o.answer)
  pub discards : o.report.discards ≡ r.discards + times_yes (told_by (discards_of j.settings (begun j.lent) (arrivals_in j.settings j.lent j.trace)) o.answer)

adds_one : (r : Report) (j : Job) → Sound r → AddsOne r j (done_by r j)
adds_one r j c =
    split (good_report r)
    (λ g. split (room r j.settings j.lent j.trace)
    (λ m. subst (AddsOne r j) (sym (is_full r j.settings j.lent j.trace g m)) (replayed (adds r j.settings j.lent j.trace c)))
    (λ m. subst (AddsOne r j) (sym (is_many r j.settings j.lent j.trace g m)) many))
    (λ g. clash (good_report r) (sound_good r c) g)
  where
    replayed : Adds r j.settings j.lent j.trace (added_to r j.settings j.lent j.trace) → AddsOne r j (full r j.settings j.lent j.trace)
    replayed a =
        record {
          sound = a.sound;
          records = a.records ∙ ap (λ (n : ℕ). r.records + n) (sym (length_answers j.settings (arrivals_in j.settings j.lent j.trace) (begun j.lent)));
          counts = a.counts;
          discards = a.discards;
        }

    many : AddsOne r j (figures_outcome (Err TooMany) r j.lent)
    many = record { sound = c; records = omega arith; counts = λ x. unfold times_of in omega arith; discards = unfold times_yes in omega arith }

adds_all : (l : List Job) (r : Report) → Sound r → AddsAll r l (add_all r l)
unfolding add_all all_answers all_discards times_of times_yes
adds_all [] r c = record { sound = c; records = omega arith; counts = λ x. omega arith; discards = omega arith }
adds_all (j ∷ l) r c =
    let o = done_by r j in
    let a = adds_one r j c in
    let b = adds_all l o.report a.sound in
    let told = told_by (answers_of j.settings (begun j.lent) (arrivals_in j.settings j.lent j.trace)) o.answer in
    let gone = told_by (discards_of j.settings (begun j.lent) (arrivals_in j.settings j.lent j.trace)) o.answer in
    record {
      sound = b.sound;
      records = omega (arith, b.records, a.records, length-append told (all_answers o.report l));
      counts = λ x. omega (arith, b.counts x, a.counts x, times_append x told (all_answers o.report l));
      discards = omega (arith, b.discards, a.discards, yes_append gone (all_discards o.report l));
    }

fresh_sound : Sound fresh_report
unfolding sum_of
fresh_sound = record { slots = refl; sums = refl; discards = omega arith }

pub from_fresh : FromFresh
unfolding FromFresh
from_fresh l =
    let a = adds_all l fresh_report fresh_sound in
    record {
      sound = a.sound;
      records = omega (arith, a.records);
      counts = λ x. omega (arith, a.counts x, get_or-replicate {A = ℕ} 16 (place_of x) 0 0 (place_low x));
      discards = omega (arith, a.discards);
    }
