use mathlib.Core.Path.{refl}
use native.Mathlib.Omega.{arith}
use Rattle.settings_layout.proofs.Written.{settings_other, settings_put}
use Rattle.settings_layout.proofs.write_settings.Goals as goal

pub returns-then-bytes-ne-SETTINGS : goal.returns-then-bytes-ne-SETTINGS
returns-then-bytes-ne-SETTINGS c = settings_other _ _ (λ e. omega (arith, e))

pub returns : goal.returns
returns c =
    let start = c in
    settings_put start.args.bytes.now start.args.s (omega arith) c.switches.ensures c.copy_from_slice.ensures.after refl c.write_table.ensures
