-- A search that a loop makes. Assumes nothing.
use Prim.Native.Nat.{ℕ, ◌+◌}
use mathlib.Core.Path.{◌≡◌, refl}
use mathlib.Core.Bool.{Bool, false, ◌||◌}
use native.Mathlib.Numerals.{add-one}
use Rattle.laws.specs.Sets.{Set, any}

pub any_first : (P : Set) → false ≡ any 0 P
unfolding any
any_first P = refl

-- one number more, met or not
pub any_next : (P : Set) (k : ℕ) {a b : Bool} → a ≡ any k P → b ≡ P k → a || b ≡ any (k + 1) P
unfolding any
any_next P k e f = rw (add-one k, e, f)
