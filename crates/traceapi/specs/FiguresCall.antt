-- What the call that adds a trace to a report (02, L14) answers and leaves. Assumes nothing.
use Rattle.std.specs.Prelude.{ℕ, List}
use Rattle.arrival.specs.Arrive.{Lent}
use Rattle.uf2_receiver.specs.Receiver.{Slice}
use Rattle.settings_layout.specs.Layout.{settings_from}
use Rattle.trace_report.specs.Report.{FiguresOutcome, add_of}
use Rattle.trace_layout.specs.Reports.{report_from}
use Rattle.trace_layout.specs.Kept.{figures_result, kept_report, kept_index}

-- what is returned, and what the lent buffers hold
pub record FiguresCall : Type 0 where
  pub result : ℕ
  pub report : List ℕ
  pub index : List ℕ
  pub lent : Lent

-- all of them as one value, which the contract names
abbrev pub figures_call : ℕ → List ℕ → List ℕ → Lent → FiguresCall
figures_call n r i h = record { result = n; report = r; index = i; lent = h }

-- what a call returns and leaves of a trace that comes to o; r and i are the bytes of report and index as they were lent
abbrev pub figures_call_end : List ℕ → List ℕ → FiguresOutcome → FiguresCall
figures_call_end r i o = figures_call (figures_result o.answer) (kept_report r o.answer o.report) (kept_index i o.answer) o.lent

-- bytes of report and settings, trace, bytes of the index, and what is lent
unfoldable pub figures_bytes : List ℕ → List ℕ → List ℕ → List ℕ → Lent → FiguresCall
figures_bytes r s trace i h = figures_call_end r i (add_of (report_from r) (settings_from s) h trace)

-- the same of the slices that the call is lent, and what it returns and leaves, which the contract names
abbrev pub figures_call_of : Slice → Slice → Slice → Slice → Lent → FiguresCall
figures_call_of r s trace i h = figures_bytes r s trace i h

abbrev pub figures_return : ℕ → Slice → Slice → Lent → FiguresCall
figures_return n r i h = figures_call n r i h
