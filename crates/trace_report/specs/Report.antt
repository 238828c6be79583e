-- An exact report over traces (02, L14): what one trace adds. Assumes nothing.
use Rattle.std.specs.Prelude.{ℕ, ◌+◌, ◌/◌, not, cond, List, Option, Result, Ok, Err, map, length}
use Rattle.memory.specs.Bitmap.{marks}
use Rattle.partitions.specs.declared.Settings.{Settings}
use Rattle.transfer.specs.Transfer.{number_of}
use Rattle.arrival.specs.Arrive.{Lent, lent_of}
use Rattle.arrival.specs.Lists.{answers_of, discards_of}
use Rattle.trace_counts.specs.declared.Report.{Report}
use Rattle.trace_counts.specs.Counts.{error_number, good_report, with_room, count_all, how_many_yes, missing_at}
use Rattle.trace_replay.specs.Replay.{begun, replay_of}
use Rattle.trace_piece.specs.declared.Stop.{Stop}
use Rattle.trace_report.specs.Pieces.{arrivals_to, records_before}
use Rattle.trace_report.specs.declared.adding.Addition.{Addition}
use Rattle.trace_counts.specs.declared.ReportError.{ReportError}
use Rattle.trace_counts.specs.declared.ReportError.TheVariants.{BadReport, TooMany}

-- ---- one trace more

-- the arrivals of the "records replayed (those before a stop)"
abbrev pub replayed_in : Settings → Lent → List ℕ → List (List ℕ)
replayed_in s h t = arrivals_to t (records_before t (replay_of s h t).stop)

-- the report with what a replay adds: our answers, our "discarded", and the end
unfoldable pub added_to : Report → Settings → Lent → List ℕ → Report
added_to r s h t =
    let l = replayed_in s h t in
    let w = (replay_of s h t).world in
    record {
      records = r.records + length l;
      counts = count_all r.counts (map number_of (answers_of s (begun h) l));
      discards = r.discards + how_many_yes (discards_of s (begun h) l);
      marked = marks w.seen;
      missing = missing_at w.transfer w.seen;
    }

-- what is handed back, and what the lent buffers hold
pub record FiguresOutcome : Type 0 where
  pub answer : Result (Option Stop) ReportError
  pub report : Report
  pub lent : Lent

-- all of them as one value, which the contract names
abbrev pub figures_outcome : Result (Option Stop) ReportError → Report → Lent → FiguresOutcome
figures_outcome x r h = record { answer = x; report = r; lent = h }

-- what is returned of a trace that is replayed, with the buffers as they are left
abbrev pub added_return : Addition → Lent → FiguresOutcome
added_return a h = figures_outcome (Ok a.stop) a.report h

-- what is returned to a caller that hands in report r, with the buffers as they are left: a refusal leaves the caller its report
abbrev pub add_return : Report → Result Addition ReportError → Lent → FiguresOutcome
add_return r (Ok a) h = added_return a h
add_return r (Err e) h = figures_outcome (Err e) r h

-- what comes of a trace, without the report
abbrev pub answer_of : Result Addition ReportError → Result (Option Stop) ReportError
answer_of (Ok a) = Ok a.stop
answer_of (Err e) = Err e

-- the numbers of the answers, and 0 for a trace that is replayed
abbrev pub figures_number : Result (Option Stop) ReportError → ℕ
figures_number (Err e) = error_number e
figures_number (Ok x) = 0

-- the number of an outcome's answer
abbrev pub outcome_number : FiguresOutcome → ℕ
outcome_number o = figures_number o.answer

-- 70; "Before that, 71"; "Both leave report and buffers"
unfoldable pub add_of : Report → Settings → Lent → List ℕ → FiguresOutcome
add_of r s h t =
    cond (not (good_report r)) (figures_outcome (Err BadReport) r h)
    (cond (not (with_room r (length t / 513))) (figures_outcome (Err TooMany) r h)
    (figures_outcome (Ok (replay_of s h t).stop) (added_to r s h t) (lent_of (replay_of s h t).world)))
