use Prim.Native.Nat.{◌≤◌}
use mathlib.Core.Path.{◌≡◌}
use mathlib.Core.Bool.{true, false}
use Rattle.laws.specs.Sets.{any}
use Rattle.partitions.specs.Parts.{wrong_entry}
use Rattle.partitions.proofs.validity.Rising.{Apart}
use Rattle.partitions.proofs.validity.any_bad.Given as goal

abbrev pub invariant-loop-k : goal.invariant-loop-k
invariant-loop-k l =
    (l.k ≤ l.count) × (any l.k (wrong_entry l.table l.flash_len) ≡ false) × (l.rising ≡ true → Apart l.table l.k l.past)
