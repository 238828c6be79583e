use Rattle.transfer_layout.proofs.results.is_acceptance.Goals as goal

pub returns : goal.returns
returns c = rw c.number.ensures
