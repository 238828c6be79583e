use mathlib.Core.Path.{sym}
use lib.ListN.{get_or-eq_default}
use Rattle.memory.proofs.cells.offset_of.Goals as goal

pub returns-else-cell-offsets : goal.returns-else-cell-offsets
returns-else-cell-offsets c = sym (get_or-eq_default c.args.offsets.now 0 c.if-cell-offsets.false)
