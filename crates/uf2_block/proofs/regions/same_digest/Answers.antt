use mathlib.Core.Path.{◌∙◌}
use Rattle.uf2_block.proofs.regions.Laws.{digest_same}
use Rattle.uf2_block.proofs.regions.same_digest.Goals as goal

pub returns : goal.returns
returns c = c.eq.ensures ∙ digest_same _ _
