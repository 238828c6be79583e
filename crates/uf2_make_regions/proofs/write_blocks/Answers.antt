use native.Mathlib.Omega.{arith}
use Rattle.uf2_make_regions.proofs.Files.{blocks_none, blocks_more, blocks_whole}
use Rattle.uf2_make_regions.proofs.write_blocks.Goals as goal

pub loop-k-init : goal.loop-k-init
loop-k-init c = blocks_none _ _ _ _

pub loop-k-preserved : goal.loop-k-preserved
loop-k-preserved c =
    let start = c in
    let a = start.args in
    let l = c.loop-k in
    blocks_more a.image.now a.family a.start a.total start.requires.image_len a.output.now l.output _ l.k start.requires.room (omega arith) l.invariant c.put_page.ensures

pub returns : goal.returns
returns c =
    let a = c.args in
    blocks_whole a.image.now a.family a.start a.total c.requires.image_len a.output.now c.loop-k.output c.loop-k.k (omega arith) c.loop-k.invariant
