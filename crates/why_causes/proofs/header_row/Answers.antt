use Rattle.std.proofs.lemmas.Result.{err_from_is_err_and}
use Rattle.why_causes.proofs.Laws.{header_decides, header_passes}
use Rattle.why_causes.proofs.header_row.Goals as goal

pub returns-in_err-magic_row : goal.returns-in_err-magic_row
returns-in_err-magic_row c =
    let p = err_from_is_err_and c.from_residual.result c.from_residual.ensures.1 in
    rw (p.1, p.2) (header_decides _ c.field.ensures c.field-2.ensures c.field-3.ensures c.magic_row.ensures c.in_err-magic_row.was)

pub returns : goal.returns
returns c = header_passes _ c.field.ensures c.field-2.ensures c.field-3.ensures c.magic_row.ensures c.field-4.ensures c.in_ok-magic_row.was c.flags_row.ensures
