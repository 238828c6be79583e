use Rattle.why_place.proofs.Laws.{MarkedTo}
use Rattle.why_place.proofs.marks.Given as goal

abbrev pub invariant-loop-k : goal.invariant-loop-k
invariant-loop-k l = MarkedTo l.settings l.family l.k l.out
