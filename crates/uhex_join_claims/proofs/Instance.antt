-- What specs/Instance.antt claims is computed. Assumes nothing.
use mathlib.Core.Path.{refl}
use mathlib.Core.List.{flatten}
use Rattle.laws.specs.Over.{over}
use Rattle.laws.specs.Tab.{from, tab}
use Rattle.ihex_record.specs.Record.{text_len, text_of, digit_of, data32, total, line_of_bytes, line_of_text, read_of, all_by, bytes_by}
use Rattle.ihex_record.specs.Write.{bytes_text, record_text, record_line}
use Rattle.uhex_grammar.specs.Boards.{with_board}
use Rattle.uhex_grammar.specs.Grammar.{data_kind, after_padding, role_of}
use Rattle.ihex_file.specs.Lines.{lines_of}
use Rattle.uhex_reader.specs.Reader.{bad_failure, bad_reader, with_state, with_upper, with_section, with_data, moved_to, given_of, effect_of}
use Rattle.uhex_reader.specs.Line.{storing, effect_outcome, record_outcome, parsed_line, live_line, halt_line, line_of}
use Rattle.uhex_claims.specs.Lines.{read_all, line_answers, stores_of}
use Rattle.ihex_file.specs.Line.{data_taken, record_taken, line_taken, taken_of}
use Rattle.ihex_file.specs.File.{records_from, records_of, lines_verdict, verdict_of}
use Rattle.ihex_data.specs.Pieces.{split_of, split_all, pieces_of}
use Rattle.ihex_data.specs.Lines.{body_lines}
use Rattle.ihex_write.specs.Fill.{fill_lines}
use Rattle.uhex_join.specs.Text.{start_lines, section_lines, file_lines, file_text}
use Rattle.uhex_join.specs.Join.{written_of, join_of}
use Rattle.uhex_join_claims.specs.Instance.{small, crossing, lines, TwoAreJoined, FillsAt, SectionsAt}

pub fills_at : FillsAt
unfolding FillsAt fill_lines record_line record_text bytes_text
fills_at = refl

pub sections_at : SectionsAt
unfolding SectionsAt section_lines start_lines body_lines fill_lines flatten data_kind record_line record_text bytes_text
sections_at = refl

pub two_are_joined : TwoAreJoined
unfolding TwoAreJoined small crossing lines join_of written_of file_text file_lines section_lines start_lines body_lines fill_lines pieces_of split_all split_of records_of records_from verdict_of lines_verdict taken_of line_taken record_taken data_taken lines_of flatten data_kind record_line record_text bytes_text from tab text_len text_of digit_of all_by bytes_by data32 total line_of_bytes line_of_text read_of over read_all line_answers stores_of line_of halt_line live_line parsed_line record_outcome effect_outcome storing effect_of given_of moved_to with_data with_section with_upper with_state bad_reader bad_failure role_of after_padding with_board
two_are_joined =
    (refl, refl, record { answered = refl; stored = refl; left = refl }, record { answered = refl; stored = refl; left = refl })
