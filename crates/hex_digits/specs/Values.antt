-- Characters by their values as digits: below 16 for a digit; and these values by "one table of 256 entries, one per byte, giving the digit or
-- 'none'" (02). Assumes nothing.
use Rattle.std.specs.Prelude.{ℕ, Bool, true, ◌&&◌, cond, List, [], ◌∷◌, ltb, get_or}

-- the character is a digit by its value, where v has the values
abbrev pub is_digit_by : (ℕ → ℕ) → ℕ → Bool
is_digit_by v c = ltb (v c) 16

-- every character is one
unfoldable pub all_by : (ℕ → ℕ) → List ℕ → Bool
all_by v [] = true
all_by v (c ∷ l) = is_digit_by v c && all_by v l

-- the value by a table; a number that is no byte has no entry, and is none
unfoldable pub value_in : List ℕ → ℕ → ℕ
value_in t c = cond (ltb c 256) (get_or t c 0) 16
