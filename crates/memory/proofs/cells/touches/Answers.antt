use Rattle.memory.proofs.cells.Laws.{touches_yes, touches_no}
use Rattle.memory.proofs.cells.touches.Goals as goal

pub returns-then-marked : goal.returns-then-marked
returns-then-marked c = touches_yes _ _ _ c.marked.ensures c.if-marked.true

pub returns : goal.returns
returns c = touches_no _ _ _ c.marked.ensures c.if-marked.false c.touches_beside.ensures
