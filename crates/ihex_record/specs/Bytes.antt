-- Rows 23 to 25 of a line of Intel Hex, of bytes that begin with those that it says. Assumes nothing.
use Rattle.std.specs.Prelude.{ℕ, ◌+◌, List, take}
use Rattle.ihex_record.specs.declared.Line.{Line}
use Rattle.ihex_record.specs.Record.{len_of, line_of_bytes}

-- of n characters; length, address, type and checksum are five bytes beside the data
unfoldable pub line_in : ℕ → List ℕ → Line
line_in n b = line_of_bytes n (take (len_of b + 5) b)
