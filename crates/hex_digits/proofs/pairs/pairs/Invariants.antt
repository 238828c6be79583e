use mathlib.Core.Path.{◌≡◌}
use Prim.Native.Nat.{◌*◌}
use lib.Dec.{ltb}
use lib.ListN.{take}
use Rattle.hex_digits.specs.Values.{value_in, all_by}
use Rattle.hex_digits.proofs.pairs.Stored.{begun}
use Rattle.hex_digits.proofs.pairs.pairs.Given as goal

abbrev pub invariant-loop-i : goal.invariant-loop-i
invariant-loop-i l = (ltb l.found 16 ≡ all_by (value_in l.table) (take (2 * l.i) l.chars)) × (l.out ≡ begun (value_in l.table) l.chars l.initial.out l.i)
