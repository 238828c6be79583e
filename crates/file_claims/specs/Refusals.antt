-- "Refusals, in order: 50 image empty or ragged, 51 start outside the window or no multiple of 256, 52 image runs past the window, 53 output under 512 bytes a
-- page." (02, L1), in numbers. Proved in proofs/Refusals.antt. Assumes nothing.
use Rattle.std.specs.Prelude.{ℕ, ◌+◌, ◌*◌, ◌/◌, ◌%◌, ◌<◌, ◌≤◌, ◌≡◌, ◌≢◌, ◌⊎◌, List, length, Ok}
use Rattle.uf2_make.specs.Uf2check.{make_number}
use Rattle.uf2_make.specs.Uf2file.{make_of}

-- rows 50, 51 and 52 are passed
abbrev pub Whole : ℕ → Type 0
Whole n = (n ≢ 0) × (n % 256 ≡ 0)

abbrev pub Started : ℕ → Type 0
Started start = (0x10000000 ≤ start) × (start < 0x12000000) × (start % 256 ≡ 0)

-- the first row that holds, of an image's length, a start and an output's length
pub data Refusal (n start room : ℕ) : ℕ → Type 0 where
  row_50 : (n ≡ 0) ⊎ (n % 256 ≢ 0) → Refusal n start room 50
  row_51 : Whole n → (start < 0x10000000) ⊎ ((0x12000000 ≤ start) ⊎ (start % 256 ≢ 0)) → Refusal n start room 51
  row_52 : Whole n → Started start → 0x12000000 < start + n → Refusal n start room 52
  row_53 : Whole n → Started start → start + n ≤ 0x12000000 → room < 512 * (n / 256) → Refusal n start room 53

unfoldable pub MakeRefuses : Type 0
MakeRefuses =
    (image out : List ℕ) (family start k : ℕ) → Refusal (length image) start (length out) k → make_number (make_of image family start out).answer ≡ k

-- and where none holds, as many blocks as there are pages are made
unfoldable pub ElseMade : Type 0
ElseMade =
    (image out : List ℕ) (family start : ℕ) → Whole (length image) → Started start → start + length image ≤ 0x12000000
    → 512 * (length image / 256) ≤ length out → (make_of image family start out).answer ≡ Ok (length image / 256)
