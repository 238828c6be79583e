use Rattle.ihex_data.proofs.Walked.{Going}
use lib.ListN.{length}
use Prim.Native.Nat.{◌-◌}
use Rattle.ihex_data.proofs.walk.Given as goal

abbrev pub invariant-loop-i : goal.invariant-loop-i
invariant-loop-i l = Going l.initial.out l.place.at l.place.kind l.text l.out l.state l.lines l.i

abbrev pub decreases-loop-i : goal.decreases-loop-i
decreases-loop-i l = length l.text - l.i
