use mathlib.Core.Path.{sym}
use lib.Seq.{set_out}
use borrow.Author.Rules.{rules}
use Rattle.memory.proofs.cells.enter.Goals as goal

pub returns-else-cell-offsets : goal.returns-else-cell-offsets
returns-else-cell-offsets c = (search rules, sym (set_out _ _ _ c.if-cell-offsets.false))
