use mathlib.Core.Path.{sym, ◌∙◌}
use native.Mathlib.Omega.{arith}
use Rattle.memory.proofs.flash.Laws.{filled, erase_in, erase_past}
use Rattle.memory.proofs.flash.erase.Goals as goal

pub returns-then-sector-flash : goal.returns-then-sector-flash
returns-then-sector-flash c =
    let b = c in
    filled _ 4096 255 _ _ (omega arith) b.fill.ensures ∙ sym (erase_in _ _ (omega arith))

pub returns-else-sector-flash : goal.returns-else-sector-flash
returns-else-sector-flash c = sym (erase_past _ _ c.if-sector-flash.false)
