-- The filling of a section (02, L11; 002, "512 Byte Aligned Sections"): "A section is filled with 0C records of 26 bytes of 0xFF while more than
-- 64 characters are missing beside an empty 0B; the 0B takes the rest as 0xFF". "other address fields are 0000". Assumes nothing.
use Rattle.std.specs.Prelude.{ℕ, ◌+◌, ◌-◌, ◌*◌, ◌/◌, ◌%◌, List, [], ◌∷◌, ◌++◌, replicate}
use Rattle.ihex_record.specs.Types.{block_end, padded_data}
use Rattle.ihex_record.specs.Write.{record_line}

-- what is missing to a multiple of 512, after n characters and an empty 0B, which has 12
abbrev pub missing : ℕ → ℕ
missing n = (512 - (n + 12) % 512) % 512

-- how many 0C, each of 64 characters (proofs/Filled.antt: one more while more than 64 are missing)
abbrev pub pads : ℕ → ℕ
pads m = (m - 1) / 64

-- an 0C of 26 bytes
abbrev pub pad_line : List ℕ
pad_line = record_line padded_data 0 (replicate 26 255)

-- an 0B that takes m characters more than an empty one
abbrev pub close_line : ℕ → List ℕ
close_line m = record_line block_end 0 (replicate (m / 2) 255)

-- where m characters are missing
unfoldable pub fill_lines : ℕ → List (List ℕ)
fill_lines m = replicate (pads m) pad_line ++ (close_line (m - 64 * pads m) ∷ [])
