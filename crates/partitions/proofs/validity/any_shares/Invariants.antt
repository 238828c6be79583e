use Prim.Native.Nat.{◌≤◌}
use mathlib.Core.Path.{◌≡◌}
use mathlib.Core.Bool.{false}
use Rattle.laws.specs.Sets.{any}
use Rattle.partitions.specs.Settings.{overlap_at}
use Rattle.partitions.specs.Parts.{shares_below}
use Rattle.partitions.proofs.validity.any_shares.Given as goal

abbrev pub invariant-loop-j : goal.invariant-loop-j
invariant-loop-j l = (l.j ≤ l.k) × (any l.j (overlap_at l.table l.k) ≡ false)

abbrev pub invariant-loop-k : goal.invariant-loop-k
invariant-loop-k l = (l.k ≤ l.count) × (any l.k (shares_below l.table) ≡ false)
