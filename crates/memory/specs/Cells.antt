-- Where ranges of 256 bytes start, in two maps. Assumes nothing.
use Rattle.std.specs.Prelude.{ℕ, ◌+◌, ◌-◌, ◌*◌, ◌/◌, ◌%◌, ◌<◌, ◌≡◌, Bool, true, false, cond, ◌&&◌, ◌||◌, List, eqb, ltb, get_or}
use Rattle.laws.specs.Sets.{Set}
use Rattle.memory.specs.Bitmap.{marked_in}

-- a range in the cell after or before has a byte in common with the one that starts `o` bytes from the start of cell c
unfoldable pub left_in : List ℕ → List ℕ → ℕ → ℕ → Bool
left_in m d c o =
    cond (marked_in m (c + 1) && ltb (get_or d (c + 1) 0) o) true
    (cond (eqb c 0) false
    (marked_in m (c - 1) && ltb o (get_or d (c - 1) 0)))

-- one that the maps hold has a byte in common with the range from `at` on
unfoldable pub touches_in : List ℕ → List ℕ → ℕ → Bool
touches_in m d at = cond (marked_in m (at / 256)) true (left_in m d (at / 256) (at % 256))

-- the maps hold the ranges that start at the members of A: one in a cell at most
pub record Kept (A : Set) (m d : List ℕ) : Type 0 where
  pub there : (c : ℕ) → marked_in m c ≡ true → (get_or d c 0 < 256) × (A (c * 256 + get_or d c 0) ≡ true)
  pub all : (a : ℕ) → A a ≡ true → (marked_in m (a / 256) ≡ true) × (get_or d (a / 256) 0 ≡ a % 256)
