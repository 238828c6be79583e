use mathlib.Core.Path.{sym, ◌∙◌}
use native.Mathlib.Omega.{arith}
use Rattle.laws.proofs.Numbered.{answer_is}
use Rattle.trace_piece.proofs.Laws.{good_length}
use Rattle.trace_piece.proofs.comparing.Laws.{judge_bad, judge_compared}
use Rattle.trace_piece.proofs.comparing.judge.Goals as goal

pub returns-then-is_bad : goal.returns-then-is_bad
returns-then-is_bad c = judge_bad _ _ _ (sym c.is_bad.ensures ∙ c.if-is_bad.true)

pub slice_bounds-look-count : goal.slice_bounds-look-count
slice_bounds-look-count c = omega (arith, good_length _ (sym c.is_bad.ensures ∙ c.if-is_bad.false))

pub slice_bounds-look-start : goal.slice_bounds-look-start
slice_bounds-look-start c = omega (arith, good_length _ (sym c.is_bad.ensures ∙ c.if-is_bad.false))

pub bounds-piece-0 : goal.bounds-piece-0
bounds-piece-0 c = omega (arith, good_length _ (sym c.is_bad.ensures ∙ c.if-is_bad.false))

pub returns : goal.returns
returns c = c.compared.ensures ∙ judge_compared _ _ _ (sym c.is_bad.ensures ∙ c.if-is_bad.false) (answer_is c.look-looked.ensures)
