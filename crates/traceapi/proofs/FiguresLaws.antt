-- The law of the call that adds a trace to a report. Assumes nothing.
use Prim.Native.Nat.{ℕ}
use mathlib.Core.Path.{◌≡◌, ap, ◌∙◌}
use mathlib.Core.List.{List}
use Rattle.std.specs.Prelude.{Ok, Err}
use Rattle.partitions.specs.declared.Settings.{Settings}
use Rattle.arrival.specs.Arrive.{Lent}
use Rattle.settings_layout.specs.Layout.{settings_from}
use Rattle.trace_counts.specs.declared.Report.{Report}
use Rattle.trace_report.specs.declared.adding.Addition.{Addition}
use Rattle.trace_counts.specs.declared.ReportError.{ReportError}
use Rattle.trace_report.specs.Report.{FiguresOutcome, add_return, answer_of, add_of}
use Rattle.trace_layout.specs.Reports.{report_from, report_written}
use Rattle.trace_layout.specs.Kept.{figures_result, with_stop}
use Rattle.traceapi.specs.FiguresCall.{figures_call, figures_call_end, figures_bytes}

module _ (r s trace i : List ℕ) (h : Lent) {q : Report} {z : Settings} (hq : q ≡ report_from r) (hz : z ≡ settings_from s) where
  ends : {o : FiguresOutcome} → o ≡ add_of q z h trace → figures_call_end r i o ≡ figures_bytes r s trace i h
  unfolding figures_bytes
  ends ho =
      ap (figures_call_end r i)
      (ho ∙ ap (λ (z : Settings). add_of q z h trace) hz ∙ ap (λ (q : Report). add_of q (settings_from s) h trace) hq)

  -- a trace that is added, and one that is refused
  pub figures_added : {a : Addition} {g : Lent} {u v : List ℕ} {n : ℕ} → add_return q (Ok a) g ≡ add_of q z h trace → u ≡ report_written r a.report → v ≡ with_stop i a.stop → n ≡ figures_result (answer_of (Ok a)) → figures_call n u v g ≡ figures_bytes r s trace i h
  figures_added ho hu hv hn = rw (hn, hu, hv) (ends ho)

  pub figures_refused : {e : ReportError} {g : Lent} {u v : List ℕ} {n : ℕ} → add_return q (Err e) g ≡ add_of q z h trace → u ≡ r → v ≡ i → n ≡ figures_result (answer_of (Err e)) → figures_call n u v g ≡ figures_bytes r s trace i h
  figures_refused ho hu hv hn = rw (hn, hu, hv) (ends ho)
