use mathlib.Core.Path.{◌∙◌}
use Rattle.toolsapi.proofs.Laws.{regions_told}
use Rattle.toolsapi.proofs.uf2_make_regions.Goals as goal

pub returns : goal.returns
returns c = regions_told _ _ _ _ c.make.ensures (c.from.ensures ∙ c.number.ensures)
