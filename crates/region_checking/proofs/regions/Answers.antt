use native.Mathlib.Omega.{arith}
use Rattle.region_checking.proofs.Laws.{noted_none}
use Rattle.region_checking.proofs.Files.{some_piece, roomy_is, regions_is}
use Rattle.region_checking.proofs.regions.Goals as goal

pub slice_bounds-field-end : goal.slice_bounds-field-end
slice_bounds-field-end c = let e = some_piece _ _ _ c.requires.checked in omega (arith, e)

pub each_region-requires : goal.each_region-requires
each_region-requires c = record {
  roomy = roomy_is _ _ _ c.requires c.size_of-size.ensures c.rooms_for-rooms.ensures.value c.field-family.ensures;
  noted = noted_none _ _ _ c.requires.clear;
}

pub returns : goal.returns
returns c = regions_is _ _ _ c.requires.checked c.size_of-size.ensures c.rooms_for-rooms.ensures.value c.field-family.ensures c.each_region.ensures
