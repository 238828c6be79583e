use Rattle.uhex_join.proofs.sections.Sectioned.{body_length, section_put}
use Rattle.ihex_data.proofs.Walked.{least_lines}
use Rattle.ihex_data.specs.Pieces.{pieces_of}
use Rattle.uhex_join.proofs.sections.put_section.Goals as goal

pub returns : goal.returns
returns c =
    let a = c.args in
    let body = c.put_body-body.ensures in
    let both = section_put a.board a.kind a.first (pieces_of a.text.now) a.out.now c.min-from.result (body_length _ _ body.value) c.put_word.ensures c.put_word-2.ensures body.lines c.put_fill.ensures c.section_len.ensures in
    record { value = both.0; lines = least_lines a.out.now a.at _ c.min-from.ensures both.1 }
