use borrow.Author.Tests.{eq-eqb, ne_eqb}
use Rattle.transfer_layout.specs.Transfers.{state_from}
use Rattle.transfer_layout.proofs.read_transfer.Goals as goal

pub returns-then-bytes-ne-TRANSFER : goal.returns-then-bytes-ne-TRANSFER
unfolding state_from
returns-then-bytes-ne-TRANSFER c = simp (c.none-state.ensures, ne_eqb _ _ c.if-bytes-ne-TRANSFER.true)

pub returns : goal.returns
unfolding state_from
returns c =
    let n = c in
    let k = n in
    simp (c.state-state.ensures, n.new-head.ensures, n.field.ensures, n.field-2.ensures, c.field-3.ensures, k.kind.ensures, eq-eqb _ _ k.if-bytes-ne-TRANSFER.false)
