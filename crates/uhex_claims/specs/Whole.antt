-- A whole file (01, "Universal Hex, a line at a time"): "A file is sections, then type 01. A section: 04; 0A with at least 2 data
-- bytes, the first two naming the board; then 04, data, 0E or 0C; then 0B." By the records alone, with types, lengths and boards as
-- 01 has them. Assumes nothing.
use Rattle.std.specs.Prelude.{ℕ, ◌+◌, ◌%◌, ◌≤◌, ◌≡◌, Bool, true, false, cond, ◌&&◌, ◌||◌, List, [], ◌∷◌, ◌++◌, leb, eqb, length}
use Rattle.uhex_claims.specs.Items.{Item, size_of, word_of}

-- ---- a section

-- "Data is type 00 in V1, 0D in any other"
unfoldable pub data_type_of : ℕ → ℕ
data_type_of b = cond (eqb b 0x9900) 0x00 0x0D

-- "After the first 0C only 0C, 0E or 0B": what stands between a section's first 0C and its 0B
pub data Tail : List Item → Type 0 where
  tail_ends : Tail []
  tail_0_c : {x : Item} {xs : List Item} → x.kind ≡ 0x0C → Tail xs → Tail (x ∷ xs)
  tail_0_e : {x : Item} {xs : List Item} → x.kind ≡ 0x0E → Tail xs → Tail (x ∷ xs)

-- "then 04, data, 0E or 0C": what stands between the 0A and the 0B, in the section of board b. "04 carries 2 bytes"; row 29: no data
-- record "of any board with address field + length over 65,536"
pub data Body (b : ℕ) : List Item → Type 0 where
  body_ends : Body b []
  body_04 : {x : Item} {xs : List Item} → x.kind ≡ 0x04 → length x.bytes ≡ 2 → Body b xs → Body b (x ∷ xs)
  body_data : {x : Item} {xs : List Item} → x.kind ≡ data_type_of b → x.address + length x.bytes ≤ 65536 → Body b xs → Body b (x ∷ xs)
  body_0_e : {x : Item} {xs : List Item} → x.kind ≡ 0x0E → Body b xs → Body b (x ∷ xs)
  body_0_c : {x : Item} {xs : List Item} → x.kind ≡ 0x0C → Tail xs → Body b (x ∷ xs)

-- the records of a section, by their places
pub record Section : Type 0 where
  pub opening : Item
  pub naming : Item
  pub body : List Item
  pub closing : Item

-- in order
abbrev pub section_items : Section → List Item
section_items s = s.opening ∷ s.naming ∷ s.body ++ (s.closing ∷ [])

-- "the first two naming the board"
abbrev pub board_of : Section → ℕ
board_of s = word_of s.naming

-- they are a section
pub record IsSection (s : Section) : Type 0 where
  pub opens : s.opening.kind ≡ 0x04
  pub upper : length s.opening.bytes ≡ 2
  pub names : s.naming.kind ≡ 0x0A
  pub board : 2 ≤ length s.naming.bytes
  pub body : Body (board_of s) s.body
  pub closes : s.closing.kind ≡ 0x0B

-- ---- sections

-- one after the other, the first at an offset; row 27: each opening 04 begins at a multiple of 512
pub data Sections : ℕ → List Section → Type 0 where
  no_section : {at : ℕ} → Sections at []
  section : {at : ℕ} {s : Section} {ss : List Section} → at % 512 ≡ 0 → IsSection s → Sections (at + size_of (section_items s)) ss
      → Sections at (s ∷ ss)

-- the records of them all
unfoldable pub all_items : List Section → List Item
all_items [] = []
all_items (s ∷ ss) = section_items s ++ all_items ss

-- how many are a board's
unfoldable pub how_many : ℕ → List Section → ℕ
how_many b [] = 0
how_many b (s ∷ ss) = cond (eqb (board_of s) b) 1 0 + how_many b ss

-- one of the records is data of board b, of at least one byte
unfoldable pub any_data : ℕ → List Item → Bool
any_data b [] = false
any_data b (x ∷ xs) = eqb x.kind (data_type_of b) && leb 1 (length x.bytes) || any_data b xs

-- board b "gave a data byte"
unfoldable pub any_gives : ℕ → List Section → Bool
any_gives b [] = false
any_gives b (s ∷ ss) = eqb (board_of s) b && any_data b s.body || any_gives b ss

-- ---- a file

pub record File (xs : List Item) : Type 0 where
  -- "A file is sections, then type 01", which carries none
  pub sections : List Section
  pub ending : Item
  pub whole : xs ≡ all_items sections ++ (ending ∷ [])
  pub ordered : Sections 0 sections
  pub ends : ending.kind ≡ 0x01
  pub empty : length ending.bytes ≡ 0
  -- row 28: no "second V1 or V2 section"
  pub once_v1 : how_many 0x9900 sections ≤ 1
  pub once_v2 : how_many 0x9903 sections ≤ 1
  -- row 30: "V1 and V2 each gave a data byte"
  pub data_v1 : any_gives 0x9900 sections ≡ true
  pub data_v2 : any_gives 0x9903 sections ≡ true
  -- row 36: "Hex file: at most 4,194,304 bytes"
  pub short : size_of xs ≤ 4194304
