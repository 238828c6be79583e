-- Parts of a fleet's figures: of one trace, and two as one. Assumes nothing.
use Rattle.std.specs.Prelude.{ℕ, ◌+◌, Bool, true, false, ◌&&◌, ◌||◌, not, cond, List, Option, Some, None, Result, Ok, Err, leb, eqb, get_or}
use Rattle.laws.specs.Sets.{one}
use Rattle.laws.specs.Tab.{tab}
use Rattle.trace_counts.specs.declared.Report.{Report}
use Rattle.trace_counts.specs.Counts.{error_number, fresh_report, good_report}
use Rattle.trace_parts.specs.declared.Part.{Part}
use Rattle.trace_counts.specs.declared.ReportError.{ReportError}
use Rattle.trace_counts.specs.declared.ReportError.TheVariants.{BadReport, TooMany}

-- the part of no trace
abbrev pub fresh_part : Part
fresh_part = record { report = fresh_report; traces = 0; bad = 0; differs = 0 }

abbrev pub is_none : Option ℕ → Bool
is_none None = true
is_none (Some k) = false

-- no record, and no end
unfoldable pub empty_report : Report → Bool
empty_report r = eqb r.records 0 && (eqb r.marked 0 && is_none r.missing)

-- a trace stops once at most: as "bad", or as "differs"
abbrev pub stops_fit : ℕ → ℕ → ℕ → Bool
stops_fit bad differs traces = leb (bad + differs) traces

-- 71: a report that L14 calls bad, one over no trace that is not the fresh one, or more stops than traces
unfoldable pub good_part : Part → Bool
good_part p =
    good_report p.report && ((not (eqb p.traces 0) || empty_report p.report) && stops_fit p.bad p.differs p.traces)

-- the part of one trace whose replay stopped as L10's call says: 0 nowhere, 1 "bad", 2 "differs"
abbrev pub one_part : Report → ℕ → Part
one_part r stop = record { report = r; traces = 1; bad = one (eqb stop 1); differs = one (eqb stop 2) }

-- 70: the records, or the traces, of both pass 4,294,967,295
abbrev pub fits : ℕ → ℕ → ℕ → ℕ → Bool
fits records more traces others = leb (records + more) 4294967295 && leb (traces + others) 4294967295

unfoldable pub room_for : Part → Part → Bool
room_for a b = fits a.report.records b.report.records a.traces b.traces

-- count k of both
abbrev pub both_at : List ℕ → List ℕ → ℕ → ℕ
both_at a b k = get_or a k 0 + get_or b k 0

-- the figures of both, and the last trace's end: the later part's, if it has a trace
unfoldable pub joined : Part → Part → Part
joined a b =
    record {
      report = record {
        records = a.report.records + b.report.records;
        counts = tab 16 (both_at a.report.counts b.report.counts);
        discards = a.report.discards + b.report.discards;
        marked = cond (eqb b.traces 0) a.report.marked b.report.marked;
        missing = cond (eqb b.traces 0) a.report.missing b.report.missing;
      };
      traces = a.traces + b.traces;
      bad = a.bad + b.bad;
      differs = a.differs + b.differs;
    }

-- the number of what comes of two parts, or of a report over one trace
abbrev pub merge_number : Result Part ReportError → ℕ
merge_number (Err e) = error_number e
merge_number (Ok p) = 0

-- one trace: 71 of a bad report, and of any other number
unfoldable pub one_of : Report → ℕ → Result Part ReportError
one_of r stop = cond (not (good_report r && leb stop 2)) (Err BadReport) (Ok (one_part r stop))

-- two parts: 71 of either, then 70; both hand back no part, and the caller's stay as they were
unfoldable pub merge_of : Part → Part → Result Part ReportError
merge_of a b =
    cond (not (good_part a && good_part b)) (Err BadReport)
    (cond (not (room_for a b)) (Err TooMany) (Ok (joined a b)))
