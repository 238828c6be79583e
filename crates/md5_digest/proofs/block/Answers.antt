use Rattle.md5_digest.proofs.Laws.{steps_none, added}
use Rattle.md5_digest.proofs.block.Goals as goal

pub returns : goal.returns
returns c =
    let s = c.args.s in
    added _ s _ (c.round-t.ensures s (c.round-h.ensures s (c.round-g.ensures s (c.round-f.ensures s (steps_none _ s)))))
