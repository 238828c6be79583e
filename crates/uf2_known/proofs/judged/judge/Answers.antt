use Rattle.uf2_known.proofs.judged.judge.Goals as goal

pub returns : goal.returns
returns c = record {
  value = rw (c.lengths_right-right.ensures, c.good-good.ensures, c.rooms_for-rooms.ensures.value);
  low = c.rooms_for-rooms.ensures.low;
}
