-- A file of four sections, so that the definition is not empty: V1, a third board, V2, and the third board again with nothing in its section.
-- Checked in proofs/Instance.antt. Assumes nothing.
use Rattle.std.specs.Prelude.{ℕ, ◌≡◌, List, [], ◌∷◌, ◌++◌, map, replicate}
use Rattle.uhex_grammar.specs.Answers.{number_of}
use Rattle.uhex_claims.specs.Items.{Item, Says, item, line_for}
use Rattle.uhex_claims.specs.Whole.{Section, all_items, File}
use Rattle.uhex_claims.specs.State.{begin, answers_for, image_for}

-- six 0C, the first of n bytes
abbrev pub padding : ℕ → List Item
padding n = item 0x0C 0 (replicate n 255) ∷ replicate 5 (item 0x0C 0 (replicate 32 255))

-- a section of the board 0x99nn with some records in it
abbrev pub section_of : ℕ → List Item → Section
section_of nn xs =
    record { opening = item 0x04 0 (0 ∷ 0 ∷ []); naming = item 0x0A 0 (0x99 ∷ nn ∷ 0xC0 ∷ 0xDE ∷ []); body = xs; closing = item 0x0B 0 [] }

-- data of V1, and an 0E
abbrev pub body_v1 : List Item
body_v1 = item 0x00 2 (0xAA ∷ 0xBB ∷ []) ∷ item 0x0E 0 (1 ∷ []) ∷ padding 21

-- data of a third board, 0x9904, that would fit an image of V1 or V2
abbrev pub body_other : List Item
body_other = item 0x0D 4 (0xCC ∷ 0xDD ∷ []) ∷ padding 28

-- data of V2
abbrev pub body_v2 : List Item
body_v2 = item 0x0D 1 (0x11 ∷ 0x22 ∷ []) ∷ padding 28

-- the first three sections are 512 bytes each
abbrev pub sections : List Section
sections = section_of 0x00 body_v1 ∷ section_of 0x04 body_other ∷ section_of 0x03 body_v2 ∷ section_of 0x04 [] ∷ []

-- the whole of it
unfoldable pub items : List Item
items = all_items sections ++ (item 0x01 0 [] ∷ [])

-- it is a file
unfoldable pub ItemsAreFile : Type 0
ItemsAreFile = Says (map line_for items) items × File items

-- what a reader of a board with an image of eight bytes 0 answers to a section's records, and what its image is then
pub record Reads (own : ℕ) (v1 other v2 : List ℕ) (image : List ℕ) : Type 0 where
  pub answers : map number_of (answers_for own 8 begin (all_items sections)) ≡ v1 ++ (other ++ (v2 ++ replicate 3 34))
  pub left : image_for own begin (all_items sections) (replicate 8 0) ≡ image

-- by V1 and by V2, as `FileEnds` has it: the third board's data is passed over, though it would fit
unfoldable pub ItemsRead : Type 0
ItemsRead =
    Reads 0x9900 (34 ∷ 34 ∷ 33 ∷ replicate 8 34) (replicate 10 34) (replicate 10 34) (0 ∷ 0 ∷ 0xAA ∷ 0xBB ∷ 0 ∷ 0 ∷ 0 ∷ 0 ∷ [])
    × Reads 0x9903 (replicate 11 34) (replicate 10 34) (34 ∷ 34 ∷ 33 ∷ replicate 7 34) (0 ∷ 0x11 ∷ 0x22 ∷ 0 ∷ 0 ∷ 0 ∷ 0 ∷ 0 ∷ [])
