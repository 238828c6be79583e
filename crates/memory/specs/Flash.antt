-- What reads and writes of the flash mean. Assumes nothing.
use Rattle.std.specs.Prelude.{ℕ, ◌+◌, ◌*◌, ◌/◌, ◌%◌, Bool, ◌&&◌, cond, List, length, take, drop, eqb, ltb, leb}
use Rattle.memory.specs.Many.{many}
use Rattle.laws.specs.Over.{over}

-- 01, "Sizes": flash, "multiple of 4,096, from 4,096 to 33,554,432"
unfoldable pub flash_length : ℕ → Bool
flash_length n = eqb (n % 4096) 0 && leb 4096 n && leb n 33554432

-- "all its 4,096 bytes become 0xFF", of a sector of the flash; past the end nothing changes
unfoldable pub erase_at : List ℕ → ℕ → List ℕ
erase_at f k = cond (ltb k (length f / 4096)) (over f (k * 4096) (many 4096 255)) f

-- the payload of an arrival: 256 bytes from byte 32 on
unfoldable pub payload_of : List ℕ → List ℕ
payload_of a = take 256 (drop 32 a)

-- the byte j is one of the 256 from `at` on
abbrev pub spans : ℕ → ℕ → Bool
spans at j = leb at j && ltb j (at + 256)

-- a payload p of 256 bytes fits a flash f at `at`
abbrev pub room_at : List ℕ → ℕ → List ℕ → Bool
room_at f at p = eqb (length p) 256 && leb (at + 256) (length f)

-- the flash with the payload p at `at`; where it does not fit nothing changes
unfoldable pub store_at : List ℕ → ℕ → List ℕ → List ℕ
store_at f at p = cond (room_at f at p) (over f at p) f
