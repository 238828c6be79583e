use Rattle.std.proofs.Common.{◌≡◌}
use Rattle.md5_digest.specs.Md5.{blocks_of}
use Rattle.md5_digest.proofs.blocks.Given as goal

abbrev pub invariant-loop-k : goal.invariant-loop-k
invariant-loop-k l = l.t ≡ blocks_of l.l l.initial.t l.k
