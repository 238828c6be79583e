use Rattle.std.proofs.Common.{refl}
use Rattle.md5_digest.proofs.Laws.{joined}
use Rattle.md5_digest.proofs.hash.Goals as goal

pub returns : goal.returns
returns c = joined _ _ _ _ refl c.blocks-s.ensures c.finish.ensures
