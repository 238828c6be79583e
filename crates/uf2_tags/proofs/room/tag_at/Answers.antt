use mathlib.Core.Path.{sym, ap, ◌∙◌}
use Rattle.laws.specs.Numbered.{numbered}
use Rattle.uf2_tags.specs.Tag.{answer_number}
use native.Mathlib.Omega.{arith}
use borrow.Author.Rules.{rules}
use Rattle.laws.proofs.Masks.{and_bit}
use Rattle.uf2_tags.proofs.room.Laws.{not_true, not_false, payload_test, at_length, at_other, at_clear, at_payload, at_stands}
use Rattle.uf2_tags.proofs.room.tag_at.Goals as goal

pub returns-then-block-ne-ARRIVAL : goal.returns-then-block-ne-ARRIVAL
returns-then-block-ne-ARRIVAL c = ap (numbered answer_number) (at_length _ _ (omega arith))

pub returns-then-not-is_block : goal.returns-then-not-is_block
returns-then-not-is_block c = ap (numbered answer_number) (at_other _ _ (omega arith) (sym c.is_block.ensures ∙ not_true _ (search rules)))

pub returns-then-field-eq0 : goal.returns-then-field-eq0
returns-then-field-eq0 c = ap (numbered answer_number) (at_clear _ _ (omega arith) (sym c.is_block.ensures ∙ not_false _ (search rules)) (λ e. omega (arith, and_bit c.field.result 15)))

pub returns-then-bad_payload : goal.returns-then-bad_payload
returns-then-bad_payload c = ap (numbered answer_number) (at_payload _ _ (omega arith) (sym c.is_block.ensures ∙ not_false _ (search rules)) (omega (arith, and_bit c.field.result 15)) (payload_test c.field-2.ensures c.bad_payload.ensures c.if-bad_payload.true))

pub returns : goal.returns
returns c = ap (numbered answer_number) (c.stands_at.ensures ∙ at_stands _ _ (omega arith) (sym c.is_block.ensures ∙ not_false _ (search rules)) (omega (arith, and_bit c.field.result 15)) (payload_test c.field-2.ensures c.bad_payload.ensures c.if-bad_payload.false))
