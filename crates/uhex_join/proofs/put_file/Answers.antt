use Rattle.uhex_join.proofs.Files.{sections_short, file_put}
use Rattle.ihex_data.specs.Pieces.{pieces_of}
use Rattle.ihex_write.proofs.Lines.{put_record_line}
use native.Mathlib.Omega.{arith}
use mathlib.Core.Path.{◌∙◌}
use Rattle.uhex_join.proofs.put_file.Goals as goal

pub overflow_add-middle : goal.overflow_add-middle
overflow_add-middle c =
    let x = c in
    let short = sections_short (pieces_of x.args.v1.now) (pieces_of x.args.v2.now) x.args.out.now x.requires.room c.put_section-middle.ensures.value c.put_section-len.ensures.value in
    omega (arith, short)

pub returns : goal.returns
returns c =
    let x = c in
    let a = x.args in
    let one = c.put_section-middle.ensures in
    let two = c.put_section-len.ensures in
    file_put (pieces_of a.v1.now) (pieces_of a.v2.now) a.out.now x.requires.room x.requires.first_value.0 x.requires.first_value.1 one.lines one.value two.lines two.value (c.put_record.ensures ∙ put_record_line _ _ _ _ _ (omega arith))
