-- Hex digits, and the bytes that they say (01, "Universal Hex, a line at a time", row 22). Assumes nothing.
use Rattle.std.specs.Prelude.{ℕ, ◌-◌, Bool, ◌&&◌, cond, List, leb}
use Rattle.hex_digits.specs.Values.{is_digit_by}
unfoldable pub use Rattle.hex_digits.specs.Values.{all_by}
unfoldable pub use Rattle.hex_digits.specs.Pairs.{bytes_by, decoded_by}
unfoldable pub use Rattle.hex_digits.specs.First.{first_by}

-- the value of a hex digit ("upper and lower case are fine"), or 16 where the character is none
unfoldable pub digit_of : ℕ → ℕ
digit_of c =
    cond (leb 48 c && leb c 57) (c - 48)
    (cond (leb 65 c && leb c 70) (c - 55)
    (cond (leb 97 c && leb c 102) (c - 87) 16))

-- the character is a hex digit
abbrev pub is_digit : ℕ → Bool
is_digit c = is_digit_by digit_of c

-- row 22 is passed: every character is one
abbrev pub all_digits : List ℕ → Bool
all_digits l = all_by digit_of l

-- the index of the first character that is none, or how many there are
abbrev pub first_bad : List ℕ → ℕ
first_bad l = first_by digit_of l

-- two digits a byte, high first
abbrev pub bytes_of : List ℕ → List ℕ
bytes_of l = bytes_by digit_of l

-- `out` with these bytes over its beginning, as many as it has room for
abbrev pub decoded : List ℕ → List ℕ → List ℕ
decoded l out = decoded_by digit_of l out
