use Rattle.uf2_block.proofs.Laws.{flagged_container, flagged_bare, flagged_found}
use Rattle.uf2_block.proofs.flagged.Goals as goal

pub returns-then-flags-eq1 : goal.returns-then-flags-eq1
returns-then-flags-eq1 c = flagged_container _ c.field-flags.ensures c.if-flags-eq1.true

pub returns-then-flags-ne1 : goal.returns-then-flags-ne1
returns-then-flags-ne1 c = flagged_bare _ c.field-flags.ensures c.if-flags-eq1.false c.if-flags-ne1.true

pub returns : goal.returns
returns c = flagged_found _ c.field-flags.ensures c.if-flags-eq1.false c.if-flags-ne1.false c.fields.ensures
