use Rattle.uhex_join.proofs.Files.{file_length, body_verdict, body_first, too_long, written, fits_by, first_bad, first_fine, second_bad, second_fine}
use Rattle.uhex_join.proofs.sections.Sectioned.{body_length}
use Rattle.uhex_join.specs.Text.{file_text}
use Rattle.ihex_data.specs.Pieces.{pieces_of}
use Rattle.std.proofs.lemmas.Result.{err_from_is_err_and}
use Rattle.uhex_join.proofs.join.Goals as goal

pub returns-in_err-refused : goal.returns-in_err-refused
returns-in_err-refused c =
    let a = c.args in
    let v = body_verdict _ _ c.scan_file-a.ensures.value in
    let e = err_from_is_err_and c.from_residual.result c.from_residual.ensures.1 in
    rw (e.1, e.2) (first_bad a.v1.now a.v2.now a.out.now v c.refused.ensures c.in_err-refused.was)

pub returns-in_err-refused-2 : goal.returns-in_err-refused-2
returns-in_err-refused-2 c =
    let a = c.args in
    let one = first_fine a.v1.now a.v2.now a.out.now (body_verdict _ _ c.scan_file-a.ensures.value) c.refused.ensures c.in_ok-refused.was in
    let v = body_verdict _ _ c.scan_file-b.ensures.value in
    let e = err_from_is_err_and c.from_residual-in_err-refused-2.result c.from_residual-in_err-refused-2.ensures.1 in
    rw (e.1, e.2) (second_bad a.v1.now a.v2.now a.out.now one v c.refused-2.ensures c.in_err-refused-2.was)

pub returns-then-total-out : goal.returns-then-total-out
returns-then-total-out c =
    let a = c.args in
    let x = c.scan_file-a.ensures.value in
    let y = c.scan_file-b.ensures.value in
    let total = file_length (pieces_of a.v1.now) (pieces_of a.v2.now) (body_length _ _ x) (body_length _ _ y) c.section_len.ensures c.section_len-2.ensures in
    let one = first_fine a.v1.now a.v2.now a.out.now (body_verdict _ _ x) c.refused.ensures c.in_ok-refused.was in
    second_fine a.v1.now a.v2.now a.out.now one (body_verdict _ _ y) c.refused-2.ensures c.in_ok-refused-2.was
    (too_long (file_text (pieces_of a.v1.now) (pieces_of a.v2.now)) a.out.now _ total c.if-total-out.true)

pub put_file-requires : goal.put_file-requires
put_file-requires c =
    let a = c.args in
    let x = c.scan_file-a.ensures.value in
    let y = c.scan_file-b.ensures.value in
    let total = file_length (pieces_of a.v1.now) (pieces_of a.v2.now) (body_length _ _ x) (body_length _ _ y) c.section_len.ensures c.section_len-2.ensures in
    record {
      first_value = (body_first _ _ x, body_first _ _ y);
      room = fits_by (file_text (pieces_of a.v1.now) (pieces_of a.v2.now)) a.out.now _ total c.if-total-out.false;
    }

pub returns : goal.returns
returns c =
    let a = c.args in
    let x = c.scan_file-a.ensures.value in
    let y = c.scan_file-b.ensures.value in
    let total = file_length (pieces_of a.v1.now) (pieces_of a.v2.now) (body_length _ _ x) (body_length _ _ y) c.section_len.ensures c.section_len-2.ensures in
    let one = first_fine a.v1.now a.v2.now a.out.now (body_verdict _ _ x) c.refused.ensures c.in_ok-refused.was in
    second_fine a.v1.now a.v2.now a.out.now one (body_verdict _ _ y) c.refused-2.ensures c.in_ok-refused-2.was
    (written (file_text (pieces_of a.v1.now) (pieces_of a.v2.now)) a.out.now _ total c.if-total-out.false c.put_file.ensures)
