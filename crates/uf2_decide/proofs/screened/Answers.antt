use mathlib.Core.Path.{sym, ◌∙◌}
use Rattle.std.proofs.lemmas.Result.{err_from_is_err_and}
use Rattle.laws.proofs.Numbered.{answer_is}
use Rattle.uf2_decide.proofs.Laws.{screened_refused, screened_passed}
use Rattle.uf2_decide.proofs.screened.Goals as goal

pub returns-in_err-placed : goal.returns-in_err-placed
returns-in_err-placed c =
    let p = err_from_is_err_and c.from_residual.result c.from_residual.ensures.1 in
    rw (p.1, p.2) (screened_refused _ _ _ (sym (answer_is c.screen.ensures) ∙ c.in_err-placed.was))

pub returns : goal.returns
returns c = screened_passed _ _ _ (sym (answer_is c.screen.ensures) ∙ c.in_ok-placed.was) c.settle.ensures
