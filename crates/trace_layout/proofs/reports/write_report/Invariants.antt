use Prim.Native.Nat.{◌+◌}
use mathlib.Core.Path.{◌≡◌}
use Rattle.laws.specs.Over.{over}
use Rattle.laws.specs.Rows.{rows}
use Rattle.trace_layout.specs.Reports.{word_bytes}
use Rattle.trace_layout.proofs.reports.write_report.Given as goal

abbrev pub invariant-loop-k : goal.invariant-loop-k
invariant-loop-k l = l.bytes ≡ over l.fn.bytes 0 (rows (word_bytes l.report) (l.k + 1))
