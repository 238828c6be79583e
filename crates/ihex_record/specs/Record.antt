-- One line of Intel Hex, by the bytes of its text (01, "Universal Hex, a line at a time", rows 20 to 25). Assumes nothing.
use Rattle.std.specs.Prelude.{ℕ, ◌+◌, ◌-◌, ◌*◌, ◌%◌, Bool, cond, not, ◌&&◌, ◌||◌, List, [], ◌∷◌, length, take, drop, ◌==◌, nat_lt, slice_index, Result, Ok, Err}
use Rattle.laws.specs.Tab.{tab}
pub use Rattle.hex_digits.specs.Digits.{is_digit, all_digits, first_bad, bytes_of}
unfoldable pub use Rattle.hex_digits.specs.Digits.{digit_of, all_by, first_by, bytes_by}
use Rattle.ihex_record.specs.declared.Record.{Record}
use Rattle.ihex_record.specs.declared.LineError.{LineError}
use Rattle.ihex_record.specs.declared.Line.{Line}
use Rattle.ihex_record.specs.declared.LineError.TheVariants.{NoColon, BadShape, BadDigit, TooLong, BadLength, BadSum}

-- ---- "one LF, then one CR before it, is dropped"

-- the first n characters of a line end in c
abbrev pub ends_in : ℕ → List ℕ → ℕ → Bool
ends_in c l n = nat_lt 0 n && slice_index l (n - 1) == c

-- how many characters are left
unfoldable pub text_len : List ℕ → ℕ
text_len l =
    cond (ends_in 10 l (length l))
    (cond (ends_in 13 l (length l - 1)) (length l - 2) (length l - 1))
    (length l)

-- and those characters
unfoldable pub text_of : List ℕ → List ℕ
text_of l = take (text_len l) l

-- ---- the fields of a record, by its bytes: length, address (two, high first), type, data, checksum

-- "the length field"
abbrev pub len_of : List ℕ → ℕ
len_of b = slice_index b 0

-- as many data bytes as the length field says
abbrev pub data_of : List ℕ → List ℕ
data_of b = take (len_of b) (drop 4 b)

-- 32 bytes: those of d, and 0 past its end
unfoldable pub data32 : List ℕ → List ℕ
data32 d = tab 32 (λ i. slice_index d i)

-- two bytes as a number, high first
abbrev pub word_from : ℕ → ℕ → ℕ
word_from high low = 256 * high + low

-- the first two of a record's data bytes, high first
abbrev pub word_of : List ℕ → ℕ
word_of d = word_from (slice_index d 0) (slice_index d 1)

-- type, address field and length field
abbrev pub record_of : List ℕ → Record
record_of b = record { kind = slice_index b 3; address = word_from (slice_index b 1) (slice_index b 2); len = len_of b }

-- a record, or the first check that a line fails
abbrev pub ParseResult : Type 0
ParseResult = Result Record LineError

-- a good record with its data, and a refusal, which has none
abbrev pub good : List ℕ → Line
good b = record { parsed = Ok (record_of b); «data» = data32 (data_of b) }

-- of a line that says no record
abbrev pub refused : ParseResult → Line
refused p = record { parsed = p; «data» = data32 [] }

-- what f makes of the record that a line says, and d where it says none
abbrev pub on_record : {A : Type 0} → A → (Record → A) → ParseResult → A
on_record d f (Ok rec) = f rec
on_record d f (Err e) = d

-- the sum of bytes; row 25 keeps it to eight bits, which is its remainder by 256
unfoldable pub total : List ℕ → ℕ
total [] = 0
total (b ∷ l) = b + total l

-- ---- the rows, of a line's text

-- row 20: "empty or not beginning with ':'"
abbrev pub no_colon : List ℕ → Bool
no_colon t = length t == 0 || not (slice_index t 0 == 58)

-- row 21: "under 11, over 521 or an even number of characters"
abbrev pub bad_shape : ℕ → Bool
bad_shape n = nat_lt n 11 || nat_lt 521 n || n % 2 == 0

-- row 24: "characters aren't 11 + 2 x the length field"
abbrev pub bad_length : ℕ → List ℕ → Bool
bad_length n b = not (n == 11 + 2 * len_of b)

-- row 25: "the sum of all its bytes, kept to eight bits, is not zero"
abbrev pub bad_sum : List ℕ → Bool
bad_sum b = not (total b % 256 == 0)

-- rows 23 to 25, of n characters that say the bytes b; row 23: "the length field is over 32"
unfoldable pub line_of_bytes : ℕ → List ℕ → Line
line_of_bytes n b =
    cond (nat_lt 32 (len_of b)) (refused (Err TooLong))
    (cond (bad_length n b) (refused (Err BadLength))
    (cond (bad_sum b) (refused (Err BadSum)) (good b)))

-- rows 20 to 25, of a text; row 22: a character after the colon is no digit, with "the position of the first bad character, counted from 0 at
-- the colon" (02)
unfoldable pub line_of_text : List ℕ → Line
line_of_text t =
    cond (no_colon t) (refused (Err NoColon))
    (cond (bad_shape (length t)) (refused (Err BadShape))
    (cond (not (all_digits (drop 1 t))) (refused (Err (BadDigit (1 + first_bad (drop 1 t))))) (line_of_bytes (length t) (bytes_of (drop 1 t)))))

-- a line as it is handed, its ending included
unfoldable pub read_of : List ℕ → Line
read_of l = line_of_text (text_of l)

-- ---- 01's numbers of the refusals
abbrev pub error_number : LineError → ℕ
error_number NoColon = 20
error_number BadShape = 21
error_number (BadDigit p) = 22
error_number TooLong = 23
error_number BadLength = 24
error_number BadSum = 25

-- a good record has none, and 0 stands for it
abbrev pub parsed_number : ParseResult → ℕ
parsed_number (Err e) = error_number e
parsed_number (Ok r) = 0

-- and the value of the one that has one: the position of the first bad character; 0 stands for none
abbrev pub parsed_position : ParseResult → ℕ
parsed_position (Err NoColon) = 0
parsed_position (Err BadShape) = 0
parsed_position (Err (BadDigit p)) = p
parsed_position (Err TooLong) = 0
parsed_position (Err BadLength) = 0
parsed_position (Err BadSum) = 0
parsed_position (Ok r) = 0

-- ---- and the rows by these numbers: the first that a line fails, or 0 for a good record

-- rows 23 to 25, of n characters that say the bytes b
unfoldable pub bytes_row : ℕ → List ℕ → ℕ
bytes_row n b = cond (nat_lt 32 (len_of b)) 23 (cond (bad_length n b) 24 (cond (bad_sum b) 25 0))

-- rows 20 to 25, of a text
unfoldable pub text_row : List ℕ → ℕ
text_row t =
    cond (no_colon t) 20
    (cond (bad_shape (length t)) 21
    (cond (not (all_digits (drop 1 t))) 22 (bytes_row (length t) (bytes_of (drop 1 t)))))

-- of a line as it is handed
unfoldable pub row_of : List ℕ → ℕ
row_of l = text_row (text_of l)
