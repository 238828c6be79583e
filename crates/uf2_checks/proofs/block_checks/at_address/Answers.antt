use mathlib.Core.Path.{sym}
use native.Mathlib.Omega.{arith}
use Rattle.uf2_checks.proofs.block_checks.Laws.{some_alignment, address_ragged, address_past, address_passed}
use Rattle.uf2_checks.proofs.block_checks.at_address.Goals as goal

pub nonzero_rem-address : goal.nonzero_rem-address
nonzero_rem-address c = omega (arith, c.alignment-step.ensures, some_alignment c.args.kind)

pub returns-then-address-step-ne0 : goal.returns-then-address-step-ne0
returns-then-address-step-ne0 c = sym (address_ragged _ _ _ _ c.alignment-step.ensures c.if-address-step-ne0.true)

pub returns-then-size-past : goal.returns-then-size-past
returns-then-size-past c =
    let d = c in
    sym (address_past _ _ _ _ d.base-from.ensures d.requires.above c.if-size-past.true (omega arith))

pub returns : goal.returns
returns c =
    let e = c in
    let d = e in
    address_passed _ _ _ _ d.base-from.ensures d.requires.above e.alignment-step.ensures e.if-address-step-ne0.false e.if-size-past.false (omega arith) c.new-head.ensures
