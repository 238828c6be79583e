use Rattle.std.proofs.Common.{sym, length-take-le}
use Rattle.ihex_record.proofs.record_line.Rows.{read_numbered}
use Rattle.ihex_record.proofs.record_line.read.Goals as goal

pub slice_bounds-read_text-end : goal.slice_bounds-read_text-end
slice_bounds-read_text-end c = sym (length-take-le _ _ c.text_len-n.ensures.within)

pub returns : goal.returns
returns c = let r = read_numbered _ _ _ c.text_len-n.ensures.value c.read_text.ensures in record { value = r.0; number = r.1 }
