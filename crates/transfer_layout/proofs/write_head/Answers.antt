use Rattle.transfer_layout.proofs.write_head.Goals as goal

pub returns : goal.returns
returns c = let w = c in rw (w.write.ensures, w.number.ensures)
