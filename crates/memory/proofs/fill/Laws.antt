-- The laws of `many`. Assumes nothing.
use mathlib.Core.Path.{◌≡◌}
use Prim.Native.Nat.{ℕ, ◌<◌}
use lib.ListN.{length, get_or, length-replicate, get_or-replicate}
use Rattle.memory.specs.Many.{many}

pub length_many : (n v : ℕ) → length (many n v) ≡ n
unfolding many
length_many n v = length-replicate n v

pub get_d_many : (n v i : ℕ) → i < n → get_or (many n v) i 0 ≡ v
unfolding many
get_d_many n v i l = get_or-replicate n i v 0 l
