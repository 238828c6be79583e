-- The claims about the calls of a reader of extension tags (02, L4). proofs/ proves each, in lower case. Assumes nothing.
use Rattle.std.specs.Prelude.{ℕ, zero, suc, ◌+◌, ◌%◌, ◌<◌, ◌≤◌, ◌≡◌, true, false, ◌⊎◌, List, length, get_or, Err, Ok, Some}
use Rattle.std.specs.Borrow.{Bor}
use Rattle.laws.specs.Bytes.{number_in}
use Rattle.uf2_block.specs.Block.{field_at, has_flag, header_of}
use Rattle.uf2_block.specs.declared.HeaderError as header
use Rattle.uf2_tags.specs.declared.one_tag.Tag.{Tag}
use Rattle.uf2_tags.specs.declared.Tags.{Tags}
use Rattle.uf2_tags.specs.declared.one_tag.TagError.TheVariants.{BadPlace, NotBlock}
use Rattle.uf2_tags.specs.Tag.{Answer, contents_of, is_tag}
use Rattle.uf2_tags.specs.Room.{tag_at}
use Rattle.uf2_tags.specs.Reader.{started, stepped}
use Rattle.uf2_tags.specs.Search.{find_of}

-- what the next call of a reader answers
abbrev pub answer_of : Tags → Answer
answer_of r = (stepped r).answer

-- the reader after n calls
unfoldable pub after : ℕ → Tags → Tags
after zero r = r
after (suc n) r = after n (stepped r).reader

-- "Refusals .. repeated by every later call, as the end is"; the reader stays as it is
abbrev pub Repeats : Type 0
Repeats = (r : Tags) (n : ℕ) → is_tag (answer_of r) ≡ false → (after n r ≡ r) × (answer_of (after n r) ≡ answer_of r)

-- where a tag lies in its block
pub record Lies (b : List ℕ) (at : ℕ) (t : Tag) : Type 0 where
  -- "tags start after the payload, at 4-byte steps"
  pub from : 32 + field_at b 16 ≤ at
  pub step : at % 4 ≡ 0
  -- "size byte, three type bytes little-endian, contents"
  pub size : get_or b at 0 ≡ 4 + t.len
  pub kind : t.kind ≡ number_in 3 b (at + 1)
  pub start : t.start ≡ at + 4
  pub bytes : (length (contents_of b t) ≡ t.len) × ((j : ℕ) → j < t.len → get_or (contents_of b t) j 0 ≡ get_or b (at + 4 + j) 0)
  -- "Tags may use data up to byte 475, or 451 if flag 0x4000 is set"
  pub room : t.start + t.len ≤ 32 + 476
  pub short : has_flag b 0x4000 ≡ true → t.start + t.len ≤ 32 + 452
  -- the next place is the first step after the contents
  pub next : (t.start + t.len ≤ t.next) × (t.next < t.start + t.len + 4) × (t.next % 4 ≡ 0)

abbrev pub TagLies : Type 0
TagLies = (r : Tags) (t : Tag) → answer_of r ≡ Ok (Some t) → Lies r.block.now r.at t

-- a fresh reader never comes to a wrong place: 3 is for places that are handed in
abbrev pub Never3 : Type 0
Never3 = (b : Bor (List ℕ)) (n : ℕ) → answer_of (after n (started b)) ≡ Err BadPlace → ⊥

-- every block comes to an end or a refusal: the room has 476 bytes, and a tag takes 4 of them
abbrev pub EndsBy : Type 0
EndsBy = (b : Bor (List ℕ)) (n : ℕ) → 119 ≤ n → is_tag (answer_of (after n (started b))) ≡ false

-- "not a block 4" is row 4 of the receiver
abbrev pub FourIsRow4 : Type 0
FourIsRow4 = (b : List ℕ) (at : ℕ) → length b ≡ 512 → (tag_at b at ≡ Err NotBlock → header_of b ≡ Err header.TheVariants.NotBlock) × (header_of b ≡ Err header.TheVariants.NotBlock → tag_at b at ≡ Err NotBlock)

-- of an answer: it is a tag of another type
pub record Other (kind : ℕ) (a : Answer) : Type 0 where
  pub tag : Tag
  pub same : a ≡ Ok (Some tag)
  pub kinds : tag.kind ≡ kind → ⊥

-- of an answer: it is a tag of the type, or the end or a refusal
abbrev pub Stopping : ℕ → Answer → Type 0
Stopping kind a = (is_tag a ≡ false) ⊎ ((t : Tag) × (a ≡ Ok (Some t)) × (t.kind ≡ kind))

-- `find` answers what the first call of a fresh reader answers that is no tag of another type
pub record FirstOf (b : Bor (List ℕ)) (kind : ℕ) (a : Answer) : Type 0 where
  pub calls : ℕ
  pub same : a ≡ answer_of (after calls (started b))
  pub stopping : Stopping kind a
  pub others : (j : ℕ) → j < calls → Other kind (answer_of (after j (started b)))

abbrev pub FindFirst : Type 0
FindFirst = (b : Bor (List ℕ)) (kind : ℕ) → FirstOf b kind (find_of b.now kind)
