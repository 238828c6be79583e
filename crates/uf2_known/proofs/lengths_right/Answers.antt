use Rattle.arrival.specs.Arrive.{right_lengths}
use Rattle.uf2_known.proofs.lengths_right.Goals as goal

pub returns : goal.returns
unfolding right_lengths
returns c = simp c.right_length.ensures
