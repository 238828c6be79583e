use mathlib.Core.Path.{sym}
use Rattle.memory.proofs.bitmap.Laws.{mark_mask, mark_past}
use Rattle.memory.proofs.bitmap.mark.Goals as goal

pub returns-then-at-map : goal.returns-then-at-map
returns-then-at-map c = mark_mask _ _

pub returns-else-at-map : goal.returns-else-at-map
returns-else-at-map c = sym (mark_past _ _ c.if-at-map.false)
