use Rattle.call_bytes.proofs.keep.Goals as goal

pub returns-then-accepted : goal.returns-then-accepted
returns-then-accepted c = simp c.if-accepted.true c.write_transfer.ensures
