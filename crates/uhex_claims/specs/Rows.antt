-- Rows 20 to 25 in numbers (01, "Universal Hex, a line at a time"; 02, L12): what a line's characters say, each row by its own condition. None of the
-- definitions that the code meets stands on the side of the words. Proved in proofs/Rows.antt. Assumes nothing.
use Rattle.std.specs.Prelude.{ℕ, ◌+◌, ◌-◌, ◌*◌, ◌%◌, ◌<◌, ◌≤◌, ◌≡◌, ◌≢◌, List, [], ◌∷◌, ◌++◌, length, get_or, replicate, Ok, Err}
use Rattle.ihex_record.specs.declared.LineError.TheVariants.{NoColon, BadShape, BadDigit, TooLong, BadLength, BadSum}
use Rattle.ihex_record.specs.Record.{ParseResult, read_of}

-- ---- characters

-- the character c is the digit v: 0 to 9, A to F; "upper and lower case are fine"
pub data Digit (c v : ℕ) : Type 0 where
  decimal : v < 10 → c ≡ 48 + v → Digit c v
  upper : 10 ≤ v → v < 16 → c ≡ 55 + v → Digit c v
  lower : 10 ≤ v → v < 16 → c ≡ 87 + v → Digit c v

-- two a byte, high first
pub data Bytes : List ℕ → List ℕ → Type 0 where
  no_byte : Bytes [] []
  byte : {c d h l : ℕ} {cs bs : List ℕ} → Digit c h → Digit d l → Bytes cs bs → Bytes (c ∷ d ∷ cs) ((16 * h + l) ∷ bs)

-- "one LF, then one CR before it, is dropped": a line and its text
pub data TextOf : List ℕ → List ℕ → Type 0 where
  unended : {t : List ℕ} → get_or t (length t - 1) 0 ≢ 10 → TextOf t t
  ended_lf : {t : List ℕ} → get_or t (length t - 1) 0 ≢ 13 → TextOf (t ++ (10 ∷ [])) t
  ended_crlf : {t : List ℕ} → TextOf (t ++ (13 ∷ 10 ∷ [])) t

-- ---- rows

unfoldable pub sum_of : List ℕ → ℕ
sum_of [] = 0
sum_of (b ∷ l) = b + sum_of l

-- row 21 is passed: not "under 11, over 521 or an even number of characters"
pub record Shaped (n : ℕ) : Type 0 where
  pub least : 11 ≤ n
  pub most : n ≤ 521
  pub odd : n % 2 ≡ 1

-- what a text says: a refusal, or a record with its data; b are its bytes, of which the first is "the length field"
pub data Says : List ℕ → ParseResult → List ℕ → Type 0 where
  -- "empty or not beginning with ':'"
  row_20 : {t : List ℕ} → get_or t 0 0 ≢ 58 → Says t (Err NoColon) []
  row_21 : {cs : List ℕ} → (Shaped (length (58 ∷ cs)) → ⊥) → Says (58 ∷ cs) (Err BadShape) []
  -- "the position of the first bad character, counted from 0 at the colon" (L12)
  row_22 : {cs : List ℕ} (p : ℕ) → Shaped (length (58 ∷ cs)) → p < length cs → ((v : ℕ) → Digit (get_or cs p 0) v → ⊥)
      → ((i : ℕ) → i < p → (v : ℕ) × Digit (get_or cs i 0) v) → Says (58 ∷ cs) (Err (BadDigit (1 + p))) []
  -- "the length field is over 32"
  row_23 : {cs bs : List ℕ} {n : ℕ} → Shaped (length (58 ∷ cs)) → Bytes cs (n ∷ bs) → 32 < n → Says (58 ∷ cs) (Err TooLong) []
  -- "characters aren't 11 + 2 x the length field"
  row_24 : {cs bs : List ℕ} {n : ℕ} → Shaped (length (58 ∷ cs)) → Bytes cs (n ∷ bs) → n ≤ 32 → length (58 ∷ cs) ≢ 11 + 2 * n → Says (58 ∷ cs) (Err BadLength) []
  -- "the sum of all its bytes, kept to eight bits, is not zero"
  row_25 : {cs bs : List ℕ} {n : ℕ} → Shaped (length (58 ∷ cs)) → Bytes cs (n ∷ bs) → n ≤ 32 → length (58 ∷ cs) ≡ 11 + 2 * n → sum_of (n ∷ bs) % 256 ≢ 0
      → Says (58 ∷ cs) (Err BadSum) []
  -- a record: length, address (high first), type, data, checksum
  good : {cs d : List ℕ} {high low kind : ℕ} (check : ℕ) → Bytes cs (length d ∷ high ∷ low ∷ kind ∷ d ++ (check ∷ [])) → length d ≤ 32
      → sum_of (length d ∷ high ∷ low ∷ kind ∷ d ++ (check ∷ [])) % 256 ≡ 0
      → Says (58 ∷ cs) (Ok (record { kind = kind; address = 256 * high + low; len = length d })) d

-- ---- the claims

-- a line is read as its text says, with its data and zeros up to 32 bytes
unfoldable pub LineIsRead : Type 0
LineIsRead =
    (l t : List ℕ) (x : ParseResult) (d : List ℕ) → TextOf l t → Says t x d
    → ((read_of l).parsed ≡ x) × ((read_of l).«data» ≡ d ++ replicate (32 - length d) 0)

-- and there is no other line
unfoldable pub EveryLineSays : Type 0
EveryLineSays = (l : List ℕ) → (t : List ℕ) × (x : ParseResult) × (d : List ℕ) × TextOf l t × Says t x d
