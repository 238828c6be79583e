use mathlib.Core.Path.{sym, ◌∙◌}
use native.Mathlib.Omega.{arith}
use Rattle.store_entry.proofs.Parts.{stray_other, stray_part}
use Rattle.store_entry.proofs.stray.stray.Goals as goal

pub returns-in-None : goal.returns-in-None
returns-in-None c = stray_other _ (sym c.in-None.is ∙ c.read_entry.ensures) _

pub returns-in-Some : goal.returns-in-Some
returns-in-Some c = stray_part _ (λ i. omega (arith, c.type_inv.bytes i)) (sym c.in-Some.is ∙ c.read_entry.ensures) _ c.stray_of.ensures
