use mathlib.Core.Path.{◌∙◌}
use Rattle.toolsapi.proofs.Laws.{make_told}
use Rattle.toolsapi.proofs.uf2_make.Goals as goal

pub returns : goal.returns
returns c = make_told _ _ _ _ c.make.ensures (c.from.ensures ∙ c.number.ensures)
