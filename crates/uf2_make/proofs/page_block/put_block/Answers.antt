use mathlib.Core.Path.{refl}
use Rattle.uf2_make.proofs.page_block.Blocks.{block_put}
use Rattle.uf2_make.proofs.page_block.put_block.Goals as goal

pub returns : goal.returns
returns c =
    let start = c in
    block_put start.args.out.now _ _ _ _ start.args.page.now start.requires.out_len start.requires.size c.put_fields.ensures c.copy_from_slice.ensures.after refl c.fill.ensures refl c.put.ensures
