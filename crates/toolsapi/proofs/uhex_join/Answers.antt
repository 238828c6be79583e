use Rattle.toolsapi.proofs.Laws.{joined_told}
use Rattle.toolsapi.proofs.uhex_join.Goals as goal

pub returns : goal.returns
returns c =
    let a = c.args in
    joined_told a.v1.now a.v2.now a.output.now c.join.ensures c.joined_result.ensures
