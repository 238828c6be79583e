-- A list by the value at each index. Assumes nothing.
use Rattle.std.specs.Prelude.{List, [], ◌∷◌, ℕ, zero, suc}

-- f i, f (i + 1), .. , n of them
unfoldable pub from : ℕ → (ℕ → ℕ) → ℕ → List ℕ
from i f zero = []
from i f (suc n) = f i ∷ from (suc i) f n

-- f 0, f 1, .. , n of them
unfoldable pub tab : ℕ → (ℕ → ℕ) → List ℕ
tab n f = from 0 f n
