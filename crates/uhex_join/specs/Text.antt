-- What is written: the lines of a section, and of a file (02, L11; 002, "512 Byte Aligned Sections"). The lines of the data are datalines', the
-- filling is filling's. Assumes nothing.
use Rattle.std.specs.Prelude.{ℕ, length}
use mathlib.Core.List.{List, [], ◌∷◌, ◌++◌, flatten}
use Rattle.laws.specs.Stores.{Store}
use Rattle.ihex_record.specs.Types.{end_of_file, block_start}
use Rattle.ihex_record.specs.Write.{record_line}
use Rattle.uhex_grammar.specs.Grammar.{data_kind}
use Rattle.ihex_data.specs.Lines.{word_bytes, upper_line, first_upper, data_lines}
use Rattle.ihex_write.specs.Fill.{missing, fill_lines}
-- how long a section is
pub use Rattle.uhex_join.specs.Section.{section_size}

-- "the opening 04 holds the first data's upper half"; "0A holds the board's two bytes"; then the data
unfoldable pub start_lines : ℕ → List Store → List (List ℕ)
start_lines board ss =
    upper_line (first_upper ss)
    ∷ record_line block_start 0 (word_bytes board)
    ∷ data_lines (data_kind board) ss

-- "512-aligned"
unfoldable pub section_lines : ℕ → List Store → List (List ℕ)
section_lines board ss = start_lines board ss ++ fill_lines (missing (length (flatten (start_lines board ss))))

-- "V1 first", "one 01 last"
unfoldable pub file_lines : List Store → List Store → List (List ℕ)
file_lines a b = section_lines 0x9900 a ++ (section_lines 0x9903 b ++ (record_line end_of_file 0 [] ∷ []))

-- the text of it
unfoldable pub file_text : List Store → List Store → List ℕ
file_text a b = flatten (file_lines a b)
