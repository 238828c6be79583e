use Rattle.uf2_block.specs.Block.{is_block}
use Rattle.uf2_block.proofs.is_block.Goals as goal

pub returns : goal.returns
unfolding is_block
returns c = simp (c.field.ensures, c.field-2.ensures, c.field-3.ensures)
