use mathlib.Core.Path.{◌∙◌, ap}
use mathlib.Core.Bool.{not}
use borrow.Author.Tests.{eq-eqb, ne_eqb}
use Rattle.std.proofs.lemmas.Result.{err_from_is_err_and}
use Rattle.why_causes.specs.Checks.{by_numbers, row_of}
use Rattle.why_causes.specs.Lengths.{flash_row, lengths_row}
use Rattle.why_causes.proofs.Rows.{row_later, row_decides, row_passes}
use Rattle.why_causes.proofs.lengths.lengths_row.Goals as goal

pub returns-then-arrival-ne-ARRIVAL : goal.returns-then-arrival-ne-ARRIVAL
unfolding row_of lengths_row
returns-then-arrival-ne-ARRIVAL c = c.bad_length.ensures ∙ simp (ne_eqb _ _ c.if-arrival-ne-ARRIVAL.true)

pub returns-in_err-flash_row : goal.returns-in_err-flash_row
unfolding lengths_row
returns-in_err-flash_row c =
    let p = err_from_is_err_and c.from_residual.result c.from_residual.ensures.1 in
    rw (p.1, p.2)
    (row_later by_numbers _ _ (ap not (eq-eqb _ _ c.if-arrival-ne-ARRIVAL.false))
    (row_decides by_numbers (flash_row c.args.lens.flash) _ c.flash_row.ensures c.in_err-flash_row.was))

pub returns : goal.returns
unfolding lengths_row
returns c =
    row_later by_numbers _ _ (ap not (eq-eqb _ _ c.if-arrival-ne-ARRIVAL.false))
    (row_passes by_numbers (flash_row c.args.lens.flash) _ c.flash_row.ensures c.in_ok-flash_row.was c.buffer_row.ensures)
