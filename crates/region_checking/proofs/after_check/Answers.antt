use Rattle.region_checking.proofs.Files.{opened_is}
use Rattle.region_checking.proofs.after_check.Goals as goal

pub regions-requires : goal.regions-requires
regions-requires c = opened_is _ _ _ _ _ c.args.offsets.now _ c.requires.found_value c.requires.cleared c.names_regions.ensures c.if-not-names_regions.false-raw c.if-image-lens.false
