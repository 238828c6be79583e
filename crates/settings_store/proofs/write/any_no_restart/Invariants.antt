use Prim.Native.Nat.{◌≤◌}
use mathlib.Core.Path.{◌≡◌}
use Rattle.laws.specs.Sets.{any}
use Rattle.settings_store.specs.Written.{no_restart_at}
use Rattle.settings_store.proofs.write.any_no_restart.Given as goal

abbrev pub invariant-loop-k : goal.invariant-loop-k
invariant-loop-k l = (l.k ≤ l.n) × (l.found ≡ any l.k (no_restart_at l.table))
