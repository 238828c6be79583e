-- What a call answers at a place, row by row, in the block's bytes (02, L4; 000). Proved in proofs/Answers.antt. Assumes nothing.
use Rattle.std.specs.Prelude.{ℕ, ◌+◌, ◌-◌, ◌*◌, ◌/◌, ◌%◌, ◌<◌, ◌≤◌, ◌≡◌, ◌≢◌, ◌⊎◌, List, [], ◌∷◌, map, length, get_or, Ok, Some, None, Err}
use Rattle.uf2_block.specs.Block.{field_at}
use Rattle.uf2_tags.specs.declared.one_tag.TagError.TheVariants.{BadLength, BadPlace, NotBlock, BadPayload, ShortTag, TypedEnd, PastRoom, NoRoom}
use Rattle.uf2_tags.specs.Tag.{Answer, answer_number}
use Rattle.uf2_tags.specs.Room.{tag_at}

-- the three magic numbers
abbrev pub Magic : List ℕ → Type 0
Magic b = (field_at b 0 ≡ 0x0A324655) × (field_at b 4 ≡ 0x9E5D5157) × (field_at b 508 ≡ 0x0AB16F30)

-- a block that may have tags
pub record Carries (b : List ℕ) : Type 0 where
  pub whole : length b ≡ 512
  pub magic : Magic b
  pub flag : field_at b 8 / 0x8000 % 2 ≡ 1
  pub small : field_at b 16 ≤ 476
  pub even : field_at b 16 % 4 ≡ 0

-- a place in it, and where its room ends: "Tags may use data up to byte 475, or 451 if flag 0x4000 is set", data starting at 32
pub record Place (b : List ℕ) (at e : ℕ) : Type 0 where
  pub carries : Carries b
  pub from : 32 + field_at b 16 ≤ at
  pub step : at % 4 ≡ 0
  pub long : field_at b 8 / 0x4000 % 2 ≢ 1 → e ≡ 508
  pub short : field_at b 8 / 0x4000 % 2 ≡ 1 → e ≡ 484

-- "size byte, three type bytes little-endian"
abbrev pub type_at : List ℕ → ℕ → ℕ
type_at b at = get_or b (at + 1) 0 + 256 * get_or b (at + 2) 0 + 65536 * get_or b (at + 3) 0

pub data Answers (b : List ℕ) (at : ℕ) : Answer → Type 0 where
  row_1 : length b ≢ 512 → Answers b at (Err BadLength)
  row_4 : length b ≡ 512 → (Magic b → ⊥) → Answers b at (Err NotBlock)
  flag_clear : length b ≡ 512 → Magic b → field_at b 8 / 0x8000 % 2 ≢ 1 → Answers b at (Ok None)
  row_61 : length b ≡ 512 → Magic b → field_at b 8 / 0x8000 % 2 ≡ 1 → (476 < field_at b 16) ⊎ (field_at b 16 % 4 ≢ 0) → Answers b at (Err BadPayload)
  row_3 : Carries b → (at < 32 + field_at b 16) ⊎ (at % 4 ≢ 0) → Answers b at (Err BadPlace)
  row_65 : {e : ℕ} → Place b at e → e < at + 4 → Answers b at (Err NoRoom)
  end : {e : ℕ} → Place b at e → at + 4 ≤ e → get_or b at 0 ≡ 0 → type_at b at ≡ 0 → Answers b at (Ok None)
  row_62 : {e : ℕ} → Place b at e → at + 4 ≤ e → 1 ≤ get_or b at 0 → get_or b at 0 ≤ 3 → Answers b at (Err ShortTag)
  row_63 : {e : ℕ} → Place b at e → at + 4 ≤ e → get_or b at 0 ≡ 0 → type_at b at ≢ 0 → Answers b at (Err TypedEnd)
  row_64 : {e : ℕ} → Place b at e → at + 4 ≤ e → 4 ≤ get_or b at 0 → e < at + get_or b at 0 → Answers b at (Err PastRoom)
  tag : {e : ℕ} → Place b at e → at + 4 ≤ e → 4 ≤ get_or b at 0 → at + get_or b at 0 ≤ e
      → Answers b at (Ok (Some (record { kind = type_at b at; start = at + 4; len = get_or b at 0 - 4; next = at + (get_or b at 0 + 3) / 4 * 4 })))

unfoldable pub TagsAnswer : Type 0
TagsAnswer = (b : List ℕ) (at : ℕ) (x : Answer) → Answers b at x → tag_at b at ≡ x

-- the refusals' numbers
unfoldable pub TagNumbers : Type 0
TagNumbers = map answer_number (Err BadLength ∷ Err BadPlace ∷ Err NotBlock ∷ Err BadPayload ∷ Err ShortTag ∷ Err TypedEnd ∷ Err PastRoom ∷ Err NoRoom ∷ []) ≡ 1 ∷ 3 ∷ 4 ∷ 61 ∷ 62 ∷ 63 ∷ 64 ∷ 65 ∷ []
