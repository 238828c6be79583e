-- What is claimed of a report (02, L14), whatever the report, the settings, the buffers and the traces: by the records before the stop and
-- the end of the replay alone, in words of their own. proofs/ proves each claim, in lower case. Assumes nothing.
use Rattle.std.specs.Prelude.{ℕ, ◌+◌, ◌/◌, ◌≤◌, ◌<◌, ◌≡◌, ◌↔◌, Bool, true, false, List, [], ◌∷◌, ◌++◌, Option, Some, None, Result, Ok, Err, map, eqb, length, get_or}
use Rattle.laws.specs.Sets.{one}
use Rattle.memory.specs.Bitmap.{marked_in, marks}
use Rattle.partitions.specs.declared.Settings.{Settings}
use Rattle.transfer.specs.Transfer.{number_of, count_of}
use Rattle.transfer.specs.declared.Run.{Run}
use Rattle.transfer.specs.declared.State.TheVariants.{Running}
use Rattle.transfer.specs.declared.Answer.{Answer}
use Rattle.transfer.specs.declared.Answer.TheVariants.{BadBuffers, BadSettings, BadState, NotBlock, Container, NoFamily, NoPlace, BadPayload, BadNumbers, BadAddress, Finished, Again, Written, Completed, Noted, Kept}
use Rattle.arrival.specs.Arrive.{Lent, World}
use Rattle.arrival.specs.Lists.{answers_of, discards_of}
use Rattle.trace_replay.specs.Replay.{begun, replay_of}
use Rattle.trace_piece.specs.declared.Stop.{Stop}
use Rattle.trace_report.specs.Pieces.{arrivals_to, records_before}
use Rattle.trace_counts.specs.Counts.{fresh_report}
use Rattle.trace_report.specs.Report.{FiguresOutcome, figures_number, add_of}
use Rattle.trace_counts.specs.declared.Report.{Report}
use Rattle.trace_counts.specs.declared.ReportError.{ReportError}
use Rattle.trace_counts.specs.declared.ReportError.TheVariants.{BadReport, TooMany}

-- ---- a report that is handed in

-- the sum of a list
unfoldable pub sum_of : List ℕ → ℕ
sum_of [] = 0
sum_of (x ∷ l) = x + sum_of l

-- "answer counts .. sum to its records", with no "more discards than records"; a report has 16 counts
pub record Sound (r : Report) : Type 0 where
  pub slots : length r.counts ≡ 16
  pub sums : sum_of r.counts ≡ r.records
  pub discards : r.discards ≤ r.records

-- ---- what the calls answer

-- 71 of each report that is not sound, and of no other
unfoldable pub Refused71 : Type 0
Refused71 =
    (r : Report) (s : Settings) (h : Lent) (t : List ℕ) → length r.counts ≡ 16
    → ((add_of r s h t).answer ≡ Err BadReport) ↔ (Sound r → ⊥)

-- 70 of each sound report that would pass 4,294,967,295 records with the whole pieces of the trace, and of no other
unfoldable pub Refused70 : Type 0
Refused70 =
    (r : Report) (s : Settings) (h : Lent) (t : List ℕ) → length r.counts ≡ 16
    → ((add_of r s h t).answer ≡ Err TooMany) ↔ (Sound r × (4294967295 < r.records + length t / 513))

-- any other trace is replayed, and its stop is that of the replay
unfoldable pub ElseReplayed : Type 0
ElseReplayed =
    (r : Report) (s : Settings) (h : Lent) (t : List ℕ) → Sound r → r.records + length t / 513 ≤ 4294967295
    → (add_of r s h t).answer ≡ Ok (replay_of s h t).stop

-- "Both leave report and buffers."
unfoldable pub RefusalsLeaveAll : Type 0
RefusalsLeaveAll =
    (r : Report) (s : Settings) (h : Lent) (t : List ℕ) → ((x : Option Stop) → (add_of r s h t).answer ≡ Ok x → ⊥)
    → ((add_of r s h t).report ≡ r) × ((add_of r s h t).lent ≡ h)

-- "is refused unreplayed, 70. Before that, 71"
unfoldable pub ReportNumbers : Type 0
ReportNumbers = map figures_number (Err TooMany ∷ Err BadReport ∷ []) ≡ 70 ∷ 71 ∷ []

-- ---- one trace

-- how often an answer stands in a list
unfoldable pub times_of : Answer → List Answer → ℕ
times_of x [] = 0
times_of x (y ∷ l) = one (eqb (number_of x) (number_of y)) + times_of x l

-- how often yes stands in a list
unfoldable pub times_yes : List Bool → ℕ
times_yes [] = 0
times_yes (d ∷ l) = one d + times_yes l

-- where the count of an answer stands: in the order of their numbers, with no place for 6
abbrev pub place_of : Answer → ℕ
place_of BadBuffers = 0
place_of BadSettings = 1
place_of BadState = 2
place_of NotBlock = 3
place_of Container = 4
place_of NoFamily = 5
place_of NoPlace = 6
place_of BadPayload = 7
place_of BadNumbers = 8
place_of BadAddress = 9
place_of Finished = 10
place_of Again = 11
place_of Written = 12
place_of Completed = 13
place_of Noted = 14
place_of Kept = 15

-- the count of an answer in a report
abbrev pub count_in : Report → Answer → ℕ
count_in r x = get_or r.counts (place_of x) 0

-- the arrivals of the records before the stop
abbrev pub arrivals_in : Settings → Lent → List ℕ → List (List ℕ)
arrivals_in s h t = arrivals_to t (records_before t (replay_of s h t).stop)

-- "records replayed (those before a stop), a count for each of our answers, discards"
pub record Adds (r : Report) (s : Settings) (h : Lent) (t : List ℕ) (q : Report) : Type 0 where
  pub sound : Sound q
  pub records : q.records ≡ r.records + length (arrivals_in s h t)
  pub counts : (x : Answer) → count_in q x ≡ count_in r x + times_of x (answers_of s (begun h) (arrivals_in s h t))
  pub discards : q.discards ≡ r.discards + times_yes (discards_of s (begun h) (arrivals_in s h t))

unfoldable pub ReplayAdds : Type 0
ReplayAdds =
    (r : Report) (s : Settings) (h : Lent) (t : List ℕ) (x : Option Stop) → Sound r → (add_of r s h t).answer ≡ Ok x
    → Adds r s h t (add_of r s h t).report

-- "if Running, the smallest missing number": there is one exactly if Running
abbrev pub MissingFacts : World → Option ℕ → Type 0
MissingFacts w None = (r : Run) → w.transfer ≡ Running r → ⊥
MissingFacts w (Some k) =
    (r : Run) × (w.transfer ≡ Running r) × (k < r.head.total) × (marked_in w.seen k ≡ false)
    × ((j : ℕ) → j < k → marked_in w.seen j ≡ true)

-- "for the last trace's end the different numbers marked": 01's count, which is the total when Done
pub record EndFacts (w : World) (q : Report) : Type 0 where
  pub marked : q.marked ≡ marks w.seen
  pub count : q.marked ≡ count_of w.transfer
  pub missing : MissingFacts w q.missing

unfoldable pub ReplayEnds : Type 0
ReplayEnds =
    (r : Report) (s : Settings) (h : Lent) (t : List ℕ) (x : Option Stop) → (add_of r s h t).answer ≡ Ok x
    → EndFacts (replay_of s h t).world (add_of r s h t).report

-- ---- "Over many traces, each from Idle": each with settings and buffers of its own

-- a trace, and what it is replayed with
pub record Job : Type 0 where
  pub settings : Settings
  pub lent : Lent
  pub trace : List ℕ

-- one call
abbrev pub done_by : Report → Job → FiguresOutcome
done_by r j = add_of r j.settings j.lent j.trace

-- calls one after the other, each handed the report that the last one gave back
unfoldable pub add_all : Report → List Job → Report
add_all r [] = r
add_all r (j ∷ l) = add_all (done_by r j).report l

-- what a call adds to a list of all records: nothing where it is refused
abbrev pub told_by : {A : Type 0} → List A → Result (Option Stop) ReportError → List A
told_by l (Err e) = []
told_by l (Ok x) = l

-- our answers to all records replayed
unfoldable pub all_answers : Report → List Job → List Answer
all_answers r [] = []
all_answers r (j ∷ l) =
    told_by (answers_of j.settings (begun j.lent) (arrivals_in j.settings j.lent j.trace)) (done_by r j).answer
    ++ all_answers (done_by r j).report l

-- our "discarded" of each
unfoldable pub all_discards : Report → List Job → List Bool
all_discards r [] = []
all_discards r (j ∷ l) =
    told_by (discards_of j.settings (begun j.lent) (arrivals_in j.settings j.lent j.trace)) (done_by r j).answer
    ++ all_discards (done_by r j).report l

-- "Answer counts sum to the records replayed, and from a fresh, all-zero report each is the number of replayed records with that answer,
-- discards alike."
pub record Exact (l : List Job) (q : Report) : Type 0 where
  pub sound : Sound q
  pub records : q.records ≡ length (all_answers fresh_report l)
  pub counts : (x : Answer) → count_in q x ≡ times_of x (all_answers fresh_report l)
  pub discards : q.discards ≡ times_yes (all_discards fresh_report l)

unfoldable pub FromFresh : Type 0
FromFresh = (l : List Job) → Exact l (add_all fresh_report l)
