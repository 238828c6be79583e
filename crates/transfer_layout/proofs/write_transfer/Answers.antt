use mathlib.Core.Path.{sym, ap, ◌∙◌}
use borrow.Author.Tests.{eq-eqb, ne_eqb}
use Rattle.transfer_layout.specs.Transfers.{state_bytes, with_transfer}
use Rattle.transfer_layout.proofs.write_transfer.Goals as goal

pub returns-then-bytes-ne-TRANSFER : goal.returns-then-bytes-ne-TRANSFER
unfolding with_transfer
returns-then-bytes-ne-TRANSFER c = simp (ne_eqb _ _ c.if-bytes-ne-TRANSFER.true)

pub returns-in-Idle : goal.returns-in-Idle
unfolding with_transfer
returns-in-Idle c =
    let b = c in
    simp (eq-eqb _ _ b.if-bytes-ne-TRANSFER.false) (b.write.ensures ∙ sym (ap state_bytes b.in-Idle.is))

pub returns-in-Running : goal.returns-in-Running
unfolding with_transfer
returns-in-Running c =
    let b = c in
    simp (eq-eqb _ _ b.if-bytes-ne-TRANSFER.false) (b.write_head.ensures ∙ sym (ap state_bytes b.in-Running.is))

pub returns-in-Done : goal.returns-in-Done
unfolding with_transfer
returns-in-Done c =
    let b = c in
    simp (eq-eqb _ _ b.if-bytes-ne-TRANSFER.false) (b.write_head-in-Done.ensures ∙ sym (ap state_bytes b.in-Done.is))
