-- The form of a section that is written (02, "One file from two"), by its records. Assumes nothing.
use Rattle.std.specs.Prelude.{ℕ, ◌+◌, ◌*◌, ◌/◌, ◌%◌, ◌≤◌, ◌<◌, ◌≡◌, ◌≢◌, List, [], ◌∷◌, ◌++◌, replicate}
use Rattle.uhex_claims.specs.Items.{Item, item}
use Rattle.uhex_claims.specs.Whole.{data_type_of, Section}

-- "other address fields are 0000": a record that holds a number of 16 bits, high first
abbrev pub word : ℕ → ℕ → Item
word kind w = item kind 0 (w / 256 ∷ w % 256 ∷ [])

-- and one that is filled with 0xFF
abbrev pub filler : ℕ → ℕ → Item
filler kind n = item kind 0 (replicate n 255)

-- data records after an 04 that holds u: "another stands only where that changes", before the record that needs it; an address field is 16 bits
pub data UppersAsNeeded (kind : ℕ) : ℕ → List Item → Type 0 where
  no_more : {u : ℕ} → UppersAsNeeded kind u []
  same : {u a : ℕ} {d : List ℕ} {xs : List Item} → a < 65536 → UppersAsNeeded kind u xs → UppersAsNeeded kind u (item kind a d ∷ xs)
  changed : {u v a : ℕ} {d : List ℕ} {xs : List Item} → v ≢ u → a < 65536 → UppersAsNeeded kind v xs → UppersAsNeeded kind u (word 0x04 v ∷ item kind a d ∷ xs)

-- a section of a board
pub record Form (board : ℕ) (s : Section) : Type 0 where
  -- "the opening 04 holds the first data's upper half": no other 04 stands before the first data
  pub upper : ℕ
  pub address : ℕ
  pub bytes : List ℕ
  pub records : List Item
  pub opening : s.opening ≡ word 0x04 upper
  pub low : address < 65536
  pub uppers : UppersAsNeeded (data_type_of board) upper records
  -- "0A holds the board's two bytes"
  pub naming : s.naming ≡ word 0x0A board
  -- "filled with 0C records of 26 bytes of 0xFF", each of 64 characters; "the 0B takes the rest as 0xFF", two characters a byte
  pub fillers : ℕ
  pub rest : ℕ
  pub body : s.body ≡ (item (data_type_of board) address bytes ∷ records) ++ replicate fillers (filler 0x0C 26)
  pub closing : s.closing ≡ filler 0x0B rest
  -- to the next multiple of 512; "while more than 64 characters are missing beside an empty 0B": after the last 0C no more than 64 are, before
  -- it more than 64 were
  pub least : 64 * fillers + 2 * rest < 512
  pub after_last : 2 * rest ≤ 64
  pub before_last : 1 ≤ fillers → 64 < 64 + 2 * rest
