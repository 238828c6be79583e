use mathlib.Core.Path.{sym, ◌∙◌}
use native.Mathlib.Omega.{arith}
use Rattle.store_entry.proofs.Parts.{entry_other, entry_part}
use Rattle.store_entry.proofs.unpack.Goals as goal

pub returns-in-None : goal.returns-in-None
returns-in-None c = entry_other _ (sym c.in-None.is ∙ c.read_entry.ensures) c.blank.ensures

pub returns-in-Some : goal.returns-in-Some
returns-in-Some c = entry_part _ (λ i. omega (arith, c.type_inv.bytes i)) (sym c.in-Some.is ∙ c.read_entry.ensures) c.entry_of.ensures
