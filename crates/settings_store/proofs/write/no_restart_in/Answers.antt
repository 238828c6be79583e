use mathlib.Core.Path.{sym, ◌∙◌}
use native.Mathlib.Omega.{arith}
use Rattle.settings_store.proofs.write.Cases.{no_restart_few, no_restart_many}
use Rattle.settings_store.proofs.write.no_restart_in.Goals as goal

pub returns-then-n-gt-ENTRIES : goal.returns-then-n-gt-ENTRIES
returns-then-n-gt-ENTRIES c = sym (no_restart_many c.args.table c.args.n (omega arith))

pub returns : goal.returns
returns c = c.any_no_restart.ensures ∙ sym (no_restart_few _ _ (omega arith))
