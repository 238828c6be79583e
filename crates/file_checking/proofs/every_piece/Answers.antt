use mathlib.Core.Path.{refl}
use Rattle.std.proofs.lemmas.Result.{err_from_is_err_and}
use Rattle.file_checking.proofs.Files.{fault_first, no_fault, counted}
use Rattle.file_checking.proofs.every_piece.Goals as goal

pub returns-in_err-each_piece : goal.returns-in_err-each_piece
returns-in_err-each_piece c =
    let p = err_from_is_err_and c.from_residual.result c.from_residual.ensures.1 in
    rw (p.1, p.2) (fault_first _ _ _ c.in_err-each_piece.ensures.value refl)

pub whole-requires-clause-counted : goal.whole-requires-clause-counted
whole-requires-clause-counted c = counted _ _ _ c.requires.opened c.requires.some c.in_ok-each_piece.ensures.value refl _ c.in_ok-each_piece.ensures.held

pub returns : goal.returns
returns c = no_fault _ _ _ c.in_ok-each_piece.ensures.value refl c.whole.ensures
