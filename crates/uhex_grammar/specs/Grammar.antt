-- The grammar of a file: "A file is sections, then type 01. A section: 04; 0A with at least 2 data bytes, the first two naming the
-- board; then 04, data, 0E or 0C; then 0B. Data is type 00 in V1, 0D in any other. After the first 0C only 0C, 0E or 0B. 04 carries
-- 2 bytes, 01 none." (01) Assumes nothing.
use Rattle.std.specs.Prelude.{ℕ, Bool, ◌&&◌, cond, leb, eqb, Option, Some, None}
use Rattle.ihex_record.specs.Types.{data_type, end_of_file, extended_linear, block_start, block_end, padded_data, custom_data, other_data}
use Rattle.uhex_grammar.specs.Boards.{is_v1}
use Rattle.uhex_grammar.specs.declared.ReaderState.{ReaderState}
use Rattle.uhex_grammar.specs.declared.ReaderState.TheVariants.{Between, Opened, Inside, Padded, Ended, Failed}
use Rattle.uhex_grammar.specs.declared.Role.{Role}
use Rattle.uhex_grammar.specs.declared.Role.TheVariants.{Opening, Naming, Address, Data, Padding, Other, Closing, Ending}

-- "04 carries 2 bytes, 01 none"
abbrev pub is_extended_linear : ℕ → ℕ → Bool
is_extended_linear kind len = eqb kind extended_linear && eqb len 2

-- "01 none"
abbrev pub is_end_of_file : ℕ → ℕ → Bool
is_end_of_file kind len = eqb kind end_of_file && eqb len 0

-- "0A with at least 2 data bytes"
abbrev pub is_block_start : ℕ → ℕ → Bool
is_block_start kind len = eqb kind block_start && leb 2 len

-- "Data is type 00 in V1, 0D in any other"
unfoldable pub data_kind : ℕ → ℕ
data_kind board = cond (is_v1 board) data_type custom_data

-- "After the first 0C only 0C, 0E or 0B"
unfoldable pub after_padding : ℕ → ℕ → Option Role
after_padding board kind =
    cond (eqb kind padded_data) (Some (Padding board)) (cond (eqb kind other_data) (Some Other) (cond (eqb kind block_end) (Some Closing) None))

-- what a record, of a type and a number of data bytes, is where the reader stands
unfoldable pub role_of : ReaderState → ℕ → ℕ → Option Role
role_of Between kind len = cond (is_extended_linear kind len) (Some Opening) (cond (is_end_of_file kind len) (Some Ending) None)
role_of Opened kind len = cond (is_block_start kind len) (Some Naming) None
role_of (Inside board) kind len =
    cond (is_extended_linear kind len) (Some Address) (cond (eqb kind (data_kind board)) (Some (Data board)) (after_padding board kind))
role_of (Padded board) kind len = after_padding board kind
role_of Ended kind len = None
role_of (Failed f) kind len = None
