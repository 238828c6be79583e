-- The lines of a section (02, L11; 002, "512 Byte Aligned Sections"), by its board, the type of its data, an upper half and its data. The lines
-- of the data are datalines', the filling is filling's. Assumes nothing.
use Rattle.std.specs.Prelude.{ℕ, ◌+◌, length}
use mathlib.Core.List.{List, ◌∷◌, ◌++◌, flatten}
use Rattle.laws.specs.Stores.{Store}
use Rattle.ihex_record.specs.Types.{block_start}
use Rattle.ihex_record.specs.Write.{record_line}
use Rattle.ihex_data.specs.Lines.{word_bytes, upper_line, data_lines}
use Rattle.ihex_write.specs.Fill.{missing, fill_lines}

-- an 04 that holds an upper half; "0A holds the board's two bytes"; then the data
unfoldable pub start_with : ℕ → ℕ → ℕ → List Store → List (List ℕ)
start_with board kind u ss = upper_line u ∷ record_line block_start 0 (word_bytes board) ∷ data_lines kind ss

-- "512-aligned"
unfoldable pub section_with : ℕ → ℕ → ℕ → List Store → List (List ℕ)
section_with board kind u ss = start_with board kind u ss ++ fill_lines (missing (length (flatten (start_with board kind u ss))))

-- how long a section is whose data's lines have n characters: an 04, an 0A and these, then the filling
abbrev pub section_size : ℕ → ℕ
section_size n = 32 + n + (12 + missing (32 + n))
