use mathlib.Core.Path.{refl}
use Rattle.uf2_make_regions.proofs.Files.{block_is}
use Rattle.uf2_make_regions.proofs.put_page.Goals as goal

pub returns : goal.returns
returns c =
    let a = c.args in
    block_is a.image.now a.family a.start a.total c.requires.image_len a.k _ _ refl refl c.digest-digest.ensures c.put_block.ensures
