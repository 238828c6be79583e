use Prim.Native.Nat.{◌≤◌}
use mathlib.Core.Path.{◌≡◌}
use Rattle.partitions.proofs.Tables.{Filled}
use Rattle.settings_layout.specs.Layout.{entry_in, count_from, used_of}
use Rattle.settings_layout.proofs.read_settings.Given as goal

abbrev pub invariant-loop-k : goal.invariant-loop-k
invariant-loop-k l =
    (l.k ≤ l.n) × (l.n ≤ 16) × (l.n ≡ used_of (count_from l.bytes)) × Filled (entry_in l.bytes) l.k l.table
