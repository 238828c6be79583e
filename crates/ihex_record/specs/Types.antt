-- The types of a record: those of Intel Hex that a file has, and those that 002 adds ("Universal Hex New Record Types"). 01 writes them as
-- two hex digits. Assumes nothing.
use Rattle.std.specs.Prelude.{ℕ}

-- 00, a data record
abbrev pub data_type : ℕ
data_type = 0

-- 01, end of file
abbrev pub end_of_file : ℕ
end_of_file = 1

-- 04, extended linear address
abbrev pub extended_linear : ℕ
extended_linear = 4

-- 0A, block start: names the board of a section
abbrev pub block_start : ℕ
block_start = 10

-- 0B, block end: ends a section
abbrev pub block_end : ℕ
block_end = 11

-- 0C, padded data: fills a section up
abbrev pub padded_data : ℕ
padded_data = 12

-- 0D, custom data: data of a board other than V1
abbrev pub custom_data : ℕ
custom_data = 13

-- 0E, other data: for other tools
abbrev pub other_data : ℕ
other_data = 14
