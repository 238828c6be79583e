use Rattle.file_checking.proofs.Files.{head_is}
use Rattle.file_checking.proofs.head_of.Goals as goal

pub returns : goal.returns
returns c = head_is _ _ c.bytes_at-first.ensures c.is_data-page.ensures c.field-address.ensures c.field-family.ensures c.field-total.ensures c.kind_of-kind.ensures c.new.ensures
