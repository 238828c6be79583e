-- The bytes that characters say by their values, two characters a byte. Assumes nothing.
use Rattle.std.specs.Prelude.{ℕ, ◌+◌, ◌*◌, ◌/◌, ◌%◌, List, [], ◌∷◌, ◌++◌, length, take, drop}

-- high first; the remainder by 16 of a digit's value is the value itself, and a character that is no digit is refused by 01's row 22
unfoldable pub bytes_by : (ℕ → ℕ) → List ℕ → List ℕ
bytes_by v [] = []
bytes_by v (c ∷ []) = []
bytes_by v (c ∷ d ∷ l) = (16 * (v c % 16) + v d % 16) ∷ bytes_by v l

-- `out` with these bytes over its beginning, as many as it has room for
unfoldable pub decoded_by : (ℕ → ℕ) → List ℕ → List ℕ → List ℕ
decoded_by v l out = take (length out) (bytes_by v l) ++ drop (length l / 2) out
