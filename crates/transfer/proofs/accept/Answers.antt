use mathlib.Core.Path.{sym}
use Rattle.transfer.proofs.Laws.{accepted_more, accepted_last}
use Rattle.transfer.proofs.accept.Goals as goal

pub returns-then-raised-head : goal.returns-then-raised-head
returns-then-raised-head c = rw c.deed_answer-answer.ensures (sym (accepted_more _ _ _ _ _ c.if-raised-head.true))

pub returns-else-raised-head : goal.returns-else-raised-head
returns-else-raised-head c = sym (accepted_last _ _ _ _ _ c.if-raised-head.false)
