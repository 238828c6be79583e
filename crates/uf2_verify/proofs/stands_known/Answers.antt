use mathlib.Core.Path.{ap}
use borrow.Author.Tests.{not-true, not-false}
use Rattle.laws.specs.Numbered.{numbered}
use Rattle.std.proofs.lemmas.Result.{err_from_is_err_and}
use Rattle.laws.proofs.Numbered.{answer_is}
use Rattle.uf2_verify.specs.Stands.{stand_number}
use Rattle.uf2_verify.proofs.Laws.{fresh_screen, told_lengths, told_settings, told_refused, told_passed}
use Rattle.uf2_verify.proofs.stands_known.Goals as goal

pub returns-then-not-known : goal.returns-then-not-known
returns-then-not-known c = ap (numbered stand_number) (told_lengths _ _ _ (not-true _ c.if-not-known.true))

pub returns-then-not-known-2 : goal.returns-then-not-known-2
returns-then-not-known-2 c = ap (numbered stand_number) (told_settings _ _ _ (not-false _ c.if-not-known.false) (not-true _ c.if-not-known-2.true))

pub returns-in_err-placed : goal.returns-in_err-placed
returns-in_err-placed c =
    let p = err_from_is_err_and c.from_residual.result c.from_residual.ensures.1 in
    rw (p.1, p.2)
    (ap (numbered stand_number)
    (told_refused _ _ _ (not-false _ c.if-not-known.false) (not-false _ c.if-not-known-2.false) (fresh_screen _ _ _ (answer_is c.screen.ensures) c.new-fresh.ensures)
    c.in_err-placed.was))

pub returns : goal.returns
returns c =
    ap (numbered stand_number)
    (told_passed _ _ _ (not-false _ c.if-not-known.false) (not-false _ c.if-not-known-2.false) (fresh_screen _ _ _ (answer_is c.screen.ensures) c.new-fresh.ensures)
    c.in_ok-placed.was c.compared.ensures)
