use mathlib.Core.Path.{sym, ◌∙◌}
use native.Mathlib.Omega.{arith}
use Rattle.uf2_checks.proofs.block_checks.Laws.{placed_payload, placed_numbers, placed_address}
use Rattle.uf2_checks.proofs.block_checks.fits_place.Goals as goal

pub returns-then-b-ne-PAYLOAD : goal.returns-then-b-ne-PAYLOAD
returns-then-b-ne-PAYLOAD c = sym (placed_payload _ _ _ _ (omega arith))

pub returns-then-bad_numbers : goal.returns-then-bad_numbers
returns-then-bad_numbers c = sym (placed_numbers _ _ _ _ (omega arith) (sym c.bad_numbers.ensures ∙ c.if-bad_numbers.true))

pub returns : goal.returns
returns c =
    let d = c in
    c.at_address.ensures ∙ sym (placed_address _ _ _ _ (omega arith) (sym d.bad_numbers.ensures ∙ d.if-bad_numbers.false))
