use Rattle.file_check.proofs.First.{part_is}
use Rattle.region_checking.proofs.inside.piece.Goals as goal

pub returns : goal.returns
returns c = part_is _ _
