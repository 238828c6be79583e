-- The table of digits: "one table of 256 entries, one per byte, giving the digit or 'none'" (02). Assumes nothing.
use Rattle.std.specs.Prelude.{ℕ, ◌<◌, ◌≡◌, List, get_or}
use Rattle.hex_digits.specs.Digits.{digit_of}

-- its rule: each entry is the value of its byte as a digit, 16 for none
pub record TellsDigits (t : List ℕ) : Type 0 where
  pub rule : (c : ℕ) → c < 256 → get_or t c 0 ≡ digit_of c
