use Rattle.uf2_commit.proofs.clearing.clear_maps.Goals as goal

pub returns : goal.returns
returns c = (c.clear_if-2.ensures, c.clear_if.ensures)
