-- The text of a record, and the claim that it reads back as that record. Assumes nothing.
use Rattle.std.specs.Prelude.{◌≡◌, ℕ, ◌+◌, ◌-◌, ◌/◌, ◌%◌, ◌<◌, ◌≤◌, cond, List, [], ◌∷◌, ◌++◌, length, nat_lt, slice_index, Ok}
use Rattle.ihex_record.specs.Record.{data32, total, read_of}

-- the upper-case digit of a number below 16
abbrev pub digit_text : ℕ → ℕ
digit_text n = cond (nat_lt n 10) (48 + n) (55 + n)

-- two digits a byte, high first
unfoldable pub bytes_text : List ℕ → List ℕ
bytes_text [] = []
bytes_text (b ∷ l) = digit_text (b / 16) ∷ digit_text (b % 16) ∷ bytes_text l

-- the bytes of a record before its checksum: length, address, type, data
abbrev pub field_bytes : ℕ → ℕ → List ℕ → List ℕ
field_bytes kind address d = length d ∷ address / 256 ∷ address % 256 ∷ kind ∷ d

-- the byte that makes the sum of all a multiple of 256
abbrev pub checksum : List ℕ → ℕ
checksum b = (256 - total b % 256) % 256

-- the text of a record, without an ending
unfoldable pub record_text : ℕ → ℕ → List ℕ → List ℕ
record_text kind address d =
    58 ∷ bytes_text (field_bytes kind address d ++ (checksum (field_bytes kind address d) ∷ []))

-- and the line of a record, ended by LF
unfoldable pub record_line : ℕ → ℕ → List ℕ → List ℕ
record_line kind address d = record_text kind address d ++ (10 ∷ [])

-- a line's endings
pub data Ending : List ℕ → Type 0 where
  none : Ending []
  lf : Ending (10 ∷ [])
  crlf : Ending (13 ∷ 10 ∷ [])

-- every element is a byte
abbrev pub Bytes : List ℕ → Type 0
Bytes d = (i : ℕ) → i < length d → slice_index d i < 256

-- a record of at most 32 bytes, written and ended in any of the three ways, is read as that record
abbrev pub ReadsBack : Type 0
ReadsBack =
    (kind address : ℕ) (d e : List ℕ) → kind < 256 → address < 65536 → length d ≤ 32 → Bytes d → Ending e →
    read_of (record_text kind address d ++ e)
    ≡ record { parsed = Ok (record { kind = kind; address = address; len = length d }); «data» = data32 d }
