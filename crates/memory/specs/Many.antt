-- One value many times. Assumes nothing.
use Rattle.std.specs.Prelude.{ℕ, List, replicate}

-- n bytes of value v
unfoldable pub many : ℕ → ℕ → List ℕ
many n v = replicate n v
