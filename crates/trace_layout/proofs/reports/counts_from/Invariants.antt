use Rattle.trace_layout.proofs.reports.Words.{CountsTo}
use Rattle.trace_layout.proofs.reports.counts_from.Given as goal

abbrev pub invariant-loop-k : goal.invariant-loop-k
invariant-loop-k l = CountsTo l.bytes l.counts l.k
