use Rattle.std.proofs.lemmas.Result.{err_from_is_err_and}
use Rattle.why_causes.specs.Checks.{by_numbers}
use Rattle.why_causes.specs.Numbers.{payload_row, numbers_row}
use Rattle.why_causes.proofs.Rows.{row_decides, row_passes}
use Rattle.why_causes.specs.Pages.{page_row}
use Rattle.why_causes.proofs.page.inside_row.Goals as goal

pub returns-in_err-payload_row : goal.returns-in_err-payload_row
unfolding page_row
returns-in_err-payload_row c =
    let p = err_from_is_err_and c.from_residual.result c.from_residual.ensures.1 in
    rw (p.1, p.2) (row_decides by_numbers (payload_row c.args.b.size) _ c.payload_row.ensures c.in_err-payload_row.was)

pub returns-in_err-numbers_row : goal.returns-in_err-numbers_row
unfolding page_row
returns-in_err-numbers_row c =
    let p = err_from_is_err_and c.from_residual-in_err-numbers_row.result c.from_residual-in_err-numbers_row.ensures.1 in
    rw (p.1, p.2)
    (row_passes by_numbers (payload_row c.args.b.size) _ c.payload_row.ensures c.in_ok-payload_row.was
    (row_decides by_numbers (numbers_row c.args.b.total c.args.b.number c.args.size) _ c.numbers_row.ensures c.in_err-numbers_row.was))

pub returns : goal.returns
unfolding page_row
returns c =
    row_passes by_numbers (payload_row c.args.b.size) _ c.payload_row.ensures c.in_ok-payload_row.was
    (row_passes by_numbers (numbers_row c.args.b.total c.args.b.number c.args.size) _ c.numbers_row.ensures c.in_ok-numbers_row.was c.address_in.ensures)
