use Rattle.memory.proofs.cells.Laws.{left_after, left_zero, left_before}
use Rattle.memory.proofs.cells.touches_beside.Goals as goal

pub returns-then-after-near : goal.returns-then-after-near
returns-then-after-near c = left_after _ _ _ _ c.marked-after.ensures c.offset_of-near.ensures c.if-after-near.true

pub returns-then-cell-eq0 : goal.returns-then-cell-eq0
returns-then-cell-eq0 c = left_zero _ _ _ _ c.marked-after.ensures c.offset_of-near.ensures c.if-after-near.false c.if-cell-eq0.true

pub returns : goal.returns
returns c = left_before _ _ _ _ c.marked-after.ensures c.offset_of-near.ensures c.if-after-near.false c.if-cell-eq0.false c.marked-before.ensures c.offset_of-far.ensures
