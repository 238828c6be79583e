use mathlib.Core.Path.{◌≡◌}
use Rattle.std.specs.Prelude.{None}
use Rattle.placement.specs.Place.{first_of, entry_if, in_pass}
use Rattle.placement.proofs.choose.Given as goal

abbrev pub invariant-loop-i : goal.invariant-loop-i
invariant-loop-i l = first_of (entry_if l.table l.w l.pass) l.i ≡ None

abbrev pub invariant-loop-pass : goal.invariant-loop-pass
invariant-loop-pass l = first_of (in_pass l.table l.n l.w) l.pass ≡ None
