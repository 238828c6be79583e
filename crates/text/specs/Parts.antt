-- The parts of the programs' lines of text, in ASCII, and a part put into a room. Assumes nothing.
use Rattle.std.specs.Prelude.{ℕ, zero, suc, ◌+◌, ◌/◌, ◌%◌, Bool, cond, List, [], ◌∷◌, ◌++◌, ltb, leb, length}
use Rattle.laws.specs.Over.{over}
use Rattle.text.specs.Ascii.{ascii}

-- ---- a part put at an index of a list

-- the index after it; where it does not fit, the index
unfoldable pub end_of : List ℕ → ℕ → List ℕ → ℕ
end_of out at part = cond (leb (at + length part) (length out)) (at + length part) at

-- the list with it; where it does not fit, nothing is put
unfoldable pub put_part : List ℕ → ℕ → List ℕ → List ℕ
put_part out at part = cond (leb (at + length part) (length out)) (over out at part) out

-- ---- numbers

-- the last digit of a number
abbrev pub digit : ℕ → ℕ
digit n = 48 + n % 10

-- a number in decimal, of at most so many digits
unfoldable pub decimal_by : ℕ → ℕ → List ℕ
decimal_by zero n = []
decimal_by (suc most) n = cond (ltb n 10) (digit n ∷ []) (decimal_by most (n / 10) ++ (digit n ∷ []))

-- a number of 64 bits in decimal, which has at most 20 digits
unfoldable pub decimal_of : ℕ → List ℕ
decimal_of n = decimal_by 20 n

-- two numbers, with a space between: "0 14"
abbrev pub pair_text : ℕ → ℕ → List ℕ
pair_text index answer = decimal_of index ++ ascii " " ++ decimal_of answer

-- 1 or 0, as a character
abbrev pub flag_digit : Bool → ℕ
flag_digit b = cond b 49 48
