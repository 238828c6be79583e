use Rattle.placement.proofs.passes.bootable.Goals as goal

pub returns : goal.returns
returns c = simp (c.unowned.ensures, c.marked.ensures)
