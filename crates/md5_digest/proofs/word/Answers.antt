use Rattle.std.proofs.Common.{◌∙◌}
use Rattle.laws.proofs.BytesLaws.{read_four}
use Rattle.md5_digest.proofs.word.Goals as goal

pub returns : goal.returns
returns c = c.from_le_bytes.ensures ∙ read_four _ _
