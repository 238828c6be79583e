-- The first character that is no digit (01, row 22, and its position, 02), by the values of characters. Assumes nothing.
use Rattle.std.specs.Prelude.{ℕ, suc, cond, List, [], ◌∷◌}
use Rattle.hex_digits.specs.Values.{is_digit_by}

-- its index, or how many characters there are
unfoldable pub first_by : (ℕ → ℕ) → List ℕ → ℕ
first_by v [] = 0
first_by v (c ∷ l) = cond (is_digit_by v c) (suc (first_by v l)) 0
