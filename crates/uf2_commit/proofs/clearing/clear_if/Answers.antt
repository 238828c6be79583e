use Rattle.arrival.specs.Arrive.{cleared_if}
use Rattle.uf2_commit.proofs.clearing.clear_if.Goals as goal

pub returns-then-clears : goal.returns-then-clears
unfolding cleared_if
returns-then-clears c = cc

pub returns-else-clears : goal.returns-else-clears
unfolding cleared_if
returns-else-clears c = cc
