use Rattle.std.proofs.Common.{refl, arith}
use Rattle.std.proofs.lemmas.Result.{err_from_is_err_and}
use Rattle.laws.proofs.Numbered.{answer_is}
use Rattle.trace_piece.proofs.comparing.Laws.{told_left, told_long, told_taken}
use Rattle.trace_replay.proofs.one_piece.replay_piece.Goals as goal

pub returns-in_err-judge : goal.returns-in_err-judge
returns-in_err-judge c =
    let p = err_from_is_err_and c.from_residual.result c.from_residual.ensures.1 in
    rw (p.1, p.2) (told_left _ _ _ c.in_err-judge.ensures refl)

pub slice_bounds-take-count : goal.slice_bounds-take-count
slice_bounds-take-count c = omega (arith, told_long _ _ _ c.in_ok-judge.ensures refl)

pub slice_bounds-take-start : goal.slice_bounds-take-start
slice_bounds-take-start c = omega (arith, told_long _ _ _ c.in_ok-judge.ensures refl)

pub returns : goal.returns
returns c = told_taken _ _ _ c.in_ok-judge.ensures refl (answer_is c.take-taken.ensures)
