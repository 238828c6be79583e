use Rattle.uf2_block.specs.Region.{region_of}
use Rattle.uf2_block.proofs.read_region.Goals as goal

pub returns : goal.returns
unfolding region_of
returns c = simp (c.field.ensures, c.field-2.ensures, c.field-3.ensures, c.field-4.ensures, c.field-5.ensures, c.field-6.ensures)
