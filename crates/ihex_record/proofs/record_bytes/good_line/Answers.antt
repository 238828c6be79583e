use Rattle.ihex_record.proofs.Data32.{data32_data}
use Rattle.ihex_record.proofs.record_bytes.good_line.Goals as goal

pub returns : goal.returns
returns c =
    let e = data32_data c.args.bytes.now c.args.used c.requires.0 c.requires.1 c.requires.2 c.copy_from_slice.ensures.after in
    rw (c.word-address.ensures, e)
