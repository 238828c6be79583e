use mathlib.Core.Path.{sym, ◌∙◌}
use native.Mathlib.Omega.{arith}
use Rattle.laws.proofs.BytesLaws.{read_four}
use Rattle.uf2_block.proofs.words.Laws.{field_number, field_past}
use Rattle.uf2_block.proofs.words.field.Goals as goal

pub returns-then-bytes-lt4 : goal.returns-then-bytes-lt4
returns-then-bytes-lt4 c = sym (field_past _ _ (omega arith))

pub returns-then-bytes-at : goal.returns-then-bytes-at
returns-then-bytes-at c = sym (field_past _ _ (omega arith))

pub returns : goal.returns
returns c = c.from_le_bytes.ensures ∙ read_four _ _ ∙ sym (field_number _ _ (omega arith))
