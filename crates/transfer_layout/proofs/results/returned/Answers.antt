use Rattle.transfer_layout.proofs.results.returned.Goals as goal

pub returns-then-discarded : goal.returns-then-discarded
returns-then-discarded c = simp c.if-discarded.true

pub returns : goal.returns
returns c = simp c.if-discarded.false
