-- Stores: bytes from an address on, and what the latest of them leave at a place. Assumes nothing.
use Rattle.std.specs.Prelude.{ℕ, ◌+◌, ◌-◌, Bool, false, cond, ◌&&◌, ◌||◌, List, [], ◌∷◌, leb, ltb, length, get_or}

-- bytes that were stored, from an address on
pub record Store : Type 0 where
  pub address : ℕ
  pub bytes : List ℕ

-- a store has byte j of the image
abbrev pub covers : Store → ℕ → Bool
covers s j = leb s.address j && ltb j (s.address + length s.bytes)

-- byte j of the image, of a store that has it
abbrev pub byte_of : Store → ℕ → ℕ
byte_of s j = get_or s.bytes (j - s.address) 0

-- one of the stores has it
unfoldable pub any_covers : List Store → ℕ → Bool
any_covers [] j = false
any_covers (s ∷ ss) j = covers s j || any_covers ss j

-- the latest byte that was stored at j, and where none was, d
unfoldable pub latest : ℕ → List Store → ℕ → ℕ
latest j [] d = d
latest j (s ∷ ss) d = latest j ss (cond (covers s j) (byte_of s j) d)
