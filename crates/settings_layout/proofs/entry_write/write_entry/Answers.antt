use native.Mathlib.Omega.{arith}
use Rattle.settings_layout.specs.EntryBytes.{number_bytes}
use Rattle.settings_layout.proofs.entry_write.Pieces.{entry_other, entry_put}
use Rattle.settings_layout.proofs.entry_write.write_entry.Goals as goal

pub returns-then-bytes-ne-ENTRY : goal.returns-then-bytes-ne-ENTRY
returns-then-bytes-ne-ENTRY c = entry_other _ _ (λ e. omega (arith, e))

pub returns : goal.returns
unfolding number_bytes
returns c =
    let start = c in
    entry_put start.args.bytes.now start.args.e (omega arith) c.put_numbers.ensures c.flags.ensures c.copy_from_slice.ensures.after
