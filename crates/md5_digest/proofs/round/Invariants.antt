use Rattle.std.proofs.Common.{◌≡◌, ◌*◌}
use Rattle.md5_digest.specs.declared.Digest.{Digest}
use Rattle.md5_digest.specs.Md5.{steps_of}
use Rattle.md5_digest.proofs.round.Given as goal

abbrev pub invariant-loop-i : goal.invariant-loop-i
invariant-loop-i g l = (start : Digest) → l.fn.s ≡ steps_of l.m start (16 * g.row.R) → l.t ≡ steps_of l.m start l.i
