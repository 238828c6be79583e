use Rattle.file_check.proofs.First.{part_is}
use Rattle.file_checking.proofs.earlier.bytes_at.Goals as goal

pub returns : goal.returns
returns c = part_is _ _
