use Rattle.uf2_tags.proofs.Parts.{clamped}
use Rattle.uf2_tags.proofs.contents.Goals as goal

pub returns : goal.returns
returns c = clamped _ _ _ _ c.min-from.ensures c.min-len.ensures
