use Rattle.uf2_tags.proofs.Search.{Going}
use Prim.Native.Nat.{◌-◌}
use Rattle.uf2_tags.proofs.find.Given as goal

abbrev pub invariant-loop-m : goal.invariant-loop-m
invariant-loop-m l = Going l.block l.kind l.at

abbrev pub decreases-loop-m : goal.decreases-loop-m
decreases-loop-m l = 512 - l.at
