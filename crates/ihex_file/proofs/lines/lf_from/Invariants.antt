use Prim.Native.Nat.{◌+◌}
use mathlib.Core.Path.{◌≡◌}
use lib.ListN.{drop}
use Rattle.ihex_file.specs.Lines.{line_len}
use Rattle.ihex_file.proofs.lines.lf_from.Given as goal

abbrev pub invariant-loop-i : goal.invariant-loop-i
invariant-loop-i l = l.at + line_len (drop l.at l.text) ≡ l.i + line_len (drop l.i l.text)
