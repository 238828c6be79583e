use Prim.Native.Nat.{◌+◌}
use mathlib.Core.Path.{◌≡◌}
use lib.ListN.{drop}
use Rattle.hex_digits.specs.Values.{value_in}
use Rattle.hex_digits.specs.First.{first_by}
use Rattle.hex_digits.proofs.decoding.first_bad.Given as goal

abbrev pub invariant-loop-i : goal.invariant-loop-i
invariant-loop-i l = first_by (value_in l.table) l.chars ≡ l.i + first_by (value_in l.table) (drop l.i l.chars)
