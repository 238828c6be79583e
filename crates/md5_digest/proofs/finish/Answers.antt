use Rattle.std.proofs.Common.{arith}
use Rattle.md5_digest.proofs.Laws.{ended}
use Rattle.md5_digest.proofs.finish.Goals as goal

pub returns : goal.returns
returns c =
    let a = c.args in
    let e = c.length_at.ensures in
    ended a.rest.now _ a.s a.n _ (omega (arith, e)) (omega (arith, e)) c.last.ensures
