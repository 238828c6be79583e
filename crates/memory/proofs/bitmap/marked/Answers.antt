use mathlib.Core.Path.{sym}
use Rattle.memory.proofs.bitmap.Laws.{marked_mask, marked_past}
use Rattle.memory.proofs.bitmap.marked.Goals as goal

pub returns-then-at-map : goal.returns-then-at-map
returns-then-at-map c = marked_mask _ _

pub returns-else-at-map : goal.returns-else-at-map
returns-else-at-map c = sym (marked_past _ _ c.if-at-map.false)
