use mathlib.Core.Path.{◌≡◌}
use lib.Dec.{ltb}
use lib.ListN.{take}
use Rattle.hex_digits.specs.Values.{all_by, value_in}
use Rattle.hex_digits.proofs.decoding.all_digits.Given as goal

abbrev pub invariant-loop-i : goal.invariant-loop-i
invariant-loop-i l = ltb l.met 16 ≡ all_by (value_in l.table) (take l.i l.chars)
