use mathlib.Core.Path.{sym, ap, ◌∙◌}
use native.Mathlib.Omega.{arith}
use Rattle.laws.specs.Numbered.{numbered}
use Rattle.uf2_block.specs.Block.{header_number}
use Rattle.uf2_block.proofs.Laws.{header_first, header_second, header_last, header_flagged}
use Rattle.uf2_block.proofs.read.Goals as goal

pub returns-then-field-ne-MAGIC_FIRST : goal.returns-then-field-ne-MAGIC_FIRST
returns-then-field-ne-MAGIC_FIRST c = ap (numbered header_number) (sym (header_first _ (λ e. omega arith)))

pub returns-then-field-ne-MAGIC_SECOND : goal.returns-then-field-ne-MAGIC_SECOND
returns-then-field-ne-MAGIC_SECOND c = ap (numbered header_number) (sym (header_second _ (omega arith) (λ e. omega arith)))

pub returns-then-field-ne-MAGIC_LAST : goal.returns-then-field-ne-MAGIC_LAST
returns-then-field-ne-MAGIC_LAST c = ap (numbered header_number) (sym (header_last _ (omega arith) (omega arith) (λ e. omega arith)))

pub returns : goal.returns
returns c = ap (numbered header_number) (c.flagged.ensures ∙ sym (header_flagged _ (omega arith) (omega arith) (omega arith)))
