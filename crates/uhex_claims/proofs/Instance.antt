-- The file of specs/Instance.antt is read as said there, computed. Assumes nothing.
use mathlib.Core.Path.{refl}
use Rattle.laws.specs.Over.{over}
use Rattle.laws.specs.Tab.{from, tab}
use Rattle.ihex_record.specs.Record.{text_len, text_of, digit_of, data32, total, line_of_bytes, line_of_text, read_of, all_by, bytes_by, first_by}
use Rattle.ihex_record.specs.Write.{bytes_text, record_text, record_line}
use Rattle.uhex_grammar.specs.Boards.{with_board}
use Rattle.uhex_grammar.specs.Grammar.{data_kind, after_padding, role_of}
use Rattle.uhex_reader.specs.Reader.{bad_failure, bad_reader, with_state, with_upper, with_section, with_data, moved_to, given_of, effect_of}
use Rattle.uhex_reader.specs.Line.{storing, effect_outcome, record_outcome, parsed_line, live_line, halt_line, line_of}
use Rattle.uhex_claims.specs.Lines.{read_all, line_answers, stores_of}
use Rattle.uhex_claims.specs.Instance.{section_v1, section_v2, file, FileReads}

pub file_reads : FileReads
unfolding FileReads over from tab text_len text_of all_by first_by bytes_by data32 total line_of_bytes line_of_text read_of digit_of bytes_text record_text with_board data_kind after_padding role_of bad_failure bad_reader with_state with_upper with_section with_data moved_to given_of effect_of storing effect_outcome record_outcome parsed_line live_line halt_line line_of read_all line_answers stores_of record_line section_v1 section_v2 file
file_reads = (record { answered = refl; stored = refl; left = refl }, record { answered = refl; stored = refl; left = refl })
