use Prim.Native.Nat.{◌≤◌}
use mathlib.Core.Path.{◌≡◌}
use mathlib.Core.Bool.{false}
use Rattle.laws.specs.Sets.{any}
use Rattle.partitions.proofs.Tables.{Filled}
use Rattle.settings_store.specs.Store.{entry_of, stray_at}
use Rattle.settings_store.proofs.scan.Given as goal

abbrev pub invariant-loop-k : goal.invariant-loop-k
invariant-loop-k l = (l.k ≤ l.n) × Filled (entry_of l.s) l.k l.table × (any l.k (stray_at l.s l.version) ≡ false)
