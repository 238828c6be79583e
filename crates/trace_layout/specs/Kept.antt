-- What the calls for traces (02, L10 and L14) answer, and what they keep in the bytes of index and report. Assumes nothing.
use Rattle.std.specs.Prelude.{ℕ, cond, List, Option, Some, None, Result, Ok, Err, eqb, length}
use Rattle.laws.specs.Bytes.{low_first}
use Rattle.trace_piece.specs.declared.Stop.{Stop}
use Rattle.trace_piece.specs.declared.Stop.TheVariants.{Bad, Differs}
use Rattle.trace_counts.specs.declared.Report.{Report}
use Rattle.trace_counts.specs.Counts.{error_number}
use Rattle.trace_counts.specs.declared.ReportError.{ReportError}
use Rattle.trace_layout.specs.Reports.{report_written}

-- ---- where a replay stops

-- "none", "bad", "differs"
abbrev pub stop_number : Option Stop → ℕ
stop_number None = 0
stop_number (Some (Bad i)) = 1
stop_number (Some (Differs i)) = 2

-- an index in 8 bytes, the lowest first; of another length they stay
unfoldable pub index_over : List ℕ → ℕ → List ℕ
index_over l i = cond (eqb (length l) 8) (low_first 8 i) l

-- ""bad" and its index from 0", ""differs" and its index"; "none" has no index, and the bytes stay
abbrev pub with_stop : List ℕ → Option Stop → List ℕ
with_stop l None = l
with_stop l (Some (Bad i)) = index_over l i
with_stop l (Some (Differs i)) = index_over l i

-- ---- a trace handed to a report

-- 71, 70, or where the replay stopped: "none", "bad", "differs"
abbrev pub figures_result : Result (Option Stop) ReportError → ℕ
figures_result (Err e) = error_number e
figures_result (Ok x) = stop_number x

-- "Both leave report and buffers": the bytes of the report stay, whatever they are
abbrev pub kept_report : List ℕ → Result (Option Stop) ReportError → Report → List ℕ
kept_report b (Err e) r = b
kept_report b (Ok x) r = report_written b r

-- and so do those of the index
abbrev pub kept_index : List ℕ → Result (Option Stop) ReportError → List ℕ
kept_index i (Err e) = i
kept_index i (Ok x) = with_stop i x
