use Rattle.uf2_commit.proofs.Laws.{enters}
use Rattle.uf2_commit.proofs.enter.Goals as goal

pub returns : goal.returns
returns c =
    let w = c in
    let k = w in
    enters _ _ _ _ _ _ _ _ k.page_at-at.ensures k.clear_maps.ensures w.write-planned.ensures c.mark.ensures
