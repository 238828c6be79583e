-- Tags laid out as 000 says are answered in their order, then the end. Assumes nothing.
use Rattle.std.specs.Prelude.{ℕ, ◌+◌, ◌%◌, ◌<◌, ◌≤◌, ◌≡◌, true, List, [], ◌∷◌, ◌++◌, length, Ok, Some, None}
use Rattle.std.specs.Borrow.{Bor}
use Rattle.laws.specs.Bytes.{low_first}
use Rattle.uf2_block.specs.Block.{field_at, has_flag, is_block}
use Rattle.uf2_tags.specs.declared.one_tag.Tag.{Tag}
use Rattle.uf2_tags.specs.declared.Tags.{Tags}
use Rattle.uf2_tags.specs.Tag.{contents_of}
use Rattle.uf2_tags.specs.Reader.{started, stepped}
use Rattle.file_claims.specs.Calls.{answer_of}

-- a tag to be laid out: its type, its contents, and the bytes that fill it up to the next step, of which 000 says nothing
pub record Item : Type 0 where
  pub kind : ℕ
  pub bytes : List ℕ
  pub fill : List ℕ

-- what may be laid out. The size is a byte of the block, so that contents of more than 251 bytes stand in no block, and nothing is asked of their number
pub record Proper (i : Item) : Type 0 where
  -- the type fits its three bytes
  pub kind_fits : i.kind < 16777216
  -- "Every tag starts at 4 byte boundary"
  pub step : (length i.bytes + length i.fill) % 4 ≡ 0
  pub least : length i.fill < 4

unfoldable pub AllProper : List Item → Type 0
AllProper [] = Unit {0}
AllProper (i ∷ is) = Proper i × AllProper is

-- "The first byte of tag contains its total size in bytes (including the size byte and type designation). The next three bytes designate the type of tag"
unfoldable pub item_bytes : Item → List ℕ
item_bytes i = (4 + length i.bytes) ∷ (low_first 3 i.kind ++ (i.bytes ++ i.fill))

-- "The last tag has size of 0 and type of 0"
unfoldable pub laid : List Item → List ℕ
laid [] = 0 ∷ 0 ∷ 0 ∷ 0 ∷ []
laid (i ∷ is) = item_bytes i ++ laid is

-- a block with these tags after its payload, within the room
pub record Holds (b : List ℕ) (is : List Item) : Type 0 where
  pub whole : length b ≡ 512
  pub magic : is_block b ≡ true
  pub flag : has_flag b 0x8000 ≡ true
  pub payload : field_at b 16 % 4 ≡ 0
  pub front : List ℕ
  pub rest : List ℕ
  pub parts : b ≡ front ++ (laid is ++ rest)
  -- "appended right after payload data (i.e., it starts at 32 + payloadSize)"
  pub place : length front ≡ 32 + field_at b 16
  pub room : length front + length (laid is) ≤ 32 + 476
  pub short : has_flag b 0x4000 ≡ true → length front + length (laid is) ≤ 32 + 452

-- the next call answers a tag of this type with these contents
pub record Tells (r : Tags) (i : Item) : Type 0 where
  pub tag : Tag
  pub answer : answer_of r ≡ Ok (Some tag)
  pub kind : tag.kind ≡ i.kind
  pub contents : contents_of r.block.now tag ≡ i.bytes

-- call after call: each tag in its order, then the end
unfoldable pub Reads : Tags → List Item → Type 0
Reads r [] = answer_of r ≡ Ok None
Reads r (i ∷ is) = Tells r i × Reads (stepped r).reader is

abbrev pub TagsReadBack : Type 0
TagsReadBack = (b : Bor (List ℕ)) (is : List Item) → AllProper is → Holds b.now is → Reads (started b) is
