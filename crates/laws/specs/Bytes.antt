-- A number as bytes, the lowest first, of any width. Assumes nothing.
use Rattle.std.specs.Prelude.{ℕ, zero, suc, ◌+◌, ◌*◌, ◌/◌, ◌%◌, List, [], ◌∷◌, get_or}

-- the lowest n bytes of x, the lowest first
unfoldable pub low_first : ℕ → ℕ → List ℕ
low_first zero x = []
low_first (suc n) x = x % 256 ∷ low_first n (x / 256)

-- the number that n bytes from an offset on are, the lowest first (proofs/BytesLaws.antt: it is x where they are those of x, below 256 ^ n)
unfoldable pub number_in : ℕ → List ℕ → ℕ → ℕ
number_in zero b at = 0
number_in (suc n) b at = get_or b at 0 + 256 * number_in n b (at + 1)
