use Rattle.uf2_known.proofs.Laws.{all_known}
use Rattle.uf2_known.proofs.known_of.Goals as goal

pub returns : goal.returns
returns c =
    let g = c in
    record {
      value = all_known _ _ _ _ _ g.lengths_right-right.ensures g.good-good.ensures c.field-family.ensures c.rooms_for-rooms.ensures.value;
      low = c.rooms_for-rooms.ensures.low;
    }
