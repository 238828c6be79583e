use mathlib.Core.Path.{◌∙◌}
use Rattle.laws.proofs.Masks.{mask_bit}
use Rattle.uf2_block.proofs.has_region.Goals as goal

pub returns : goal.returns
returns c = mask_bit _ 14 ∙ simp c.field.ensures
