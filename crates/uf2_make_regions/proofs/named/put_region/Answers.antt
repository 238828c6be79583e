use Rattle.uf2_make_regions.proofs.named.Laws.{region_put}
use Rattle.uf2_make_regions.proofs.named.put_region.Goals as goal

pub returns : goal.returns
returns c =
    let start = c in
    region_put start.args.out.now start.args.base start.args.digest start.requires c.put.ensures c.put-2.ensures c.put_digest.ensures
