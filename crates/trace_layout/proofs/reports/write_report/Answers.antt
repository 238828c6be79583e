use mathlib.Core.Path.{ap, ◌∙◌}
use native.Mathlib.Omega.{arith}
use Rattle.std.specs.Int.{from_bool}
use borrow.Author.Tests.{ne_eqb}
use Rattle.trace_layout.specs.Reports.{report_written}
use Rattle.trace_layout.proofs.reports.Words.{words_first, words_count, words_last}
use Rattle.trace_layout.proofs.reports.write_report.Goals as goal

pub returns-then-bytes-ne-REPORT : goal.returns-then-bytes-ne-REPORT
unfolding report_written
returns-then-bytes-ne-REPORT c = rw (ne_eqb _ _ c.if-bytes-ne-REPORT.true)

pub loop-k-init : goal.loop-k-init
loop-k-init c = words_first _ _ c.if-bytes-ne-REPORT.false c.put.ensures

pub loop-k-preserved : goal.loop-k-preserved
loop-k-preserved c = words_count _ _ c.if-bytes-ne-REPORT.false _ c.loop-k-test.true c.loop-k.invariant c.put-in-loop-k.ensures

pub returns : goal.returns
returns c =
    words_last _ _ c.if-bytes-ne-REPORT.false (omega arith) c.loop-k.invariant c.put-2.ensures c.put-3.ensures (c.from.ensures ∙ ap from_bool c.is_some.ensures) c.put-4.ensures c.unwrap_or.ensures c.put-5.ensures
