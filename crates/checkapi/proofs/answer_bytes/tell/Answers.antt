use mathlib.Core.Path.{◌∙◌}
use Rattle.checkapi.proofs.answer_bytes.Laws.{no_bytes, written}
use Rattle.checkapi.proofs.answer_bytes.tell.Goals as goal

pub returns-then-told-ne-TOLD : goal.returns-then-told-ne-TOLD
returns-then-told-ne-TOLD c = no_bytes _ _ c.if-told-ne-TOLD.true

pub returns : goal.returns
returns c = written _ _ c.if-told-ne-TOLD.false c.piece_told-piece.ensures c.other_told-other.ensures c.put_numbers.ensures (c.from.ensures ∙ c.number.ensures)
