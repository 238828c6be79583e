use Prim.Native.Nat.{◌≤◌}
use mathlib.Core.Path.{◌≡◌}
use lib.ListN.{length}
use Rattle.laws.specs.Over.{over}
use Rattle.laws.specs.Rows.{rows}
use Rattle.settings_layout.specs.Layout.{row_bytes}
use Rattle.settings_layout.proofs.write_table.Given as goal

abbrev pub invariant-loop-k : goal.invariant-loop-k
invariant-loop-k l = (l.k ≤ 16) × (length l.bytes ≡ length l.initial.bytes) × (l.bytes ≡ over l.initial.bytes 0 (rows (row_bytes l.table) l.k))
