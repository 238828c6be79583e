use Rattle.md5_digest.proofs.Laws.{blocks_none, blocks_next}
use Rattle.md5_digest.proofs.blocks.Goals as goal

pub loop-k-init : goal.loop-k-init
loop-k-init c = blocks_none _ _

pub loop-k-preserved : goal.loop-k-preserved
loop-k-preserved c = blocks_next _ _ c.loop-k.t _ c.loop-k.k c.loop-k.invariant c.block-t.ensures
