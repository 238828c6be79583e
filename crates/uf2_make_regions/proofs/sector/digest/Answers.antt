use Rattle.uf2_make_regions.proofs.sector.Laws.{by_least}
use Rattle.uf2_make_regions.proofs.sector.digest.Goals as goal

pub returns : goal.returns
returns c =
    let a = c.args in
    by_least a.image.now a.start a.base c.saturating_sub-at.ensures c.saturating_sub-from.ensures c.min.ensures c.placed.ensures
