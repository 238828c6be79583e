-- The room of a block's extension tags (02, L4; 000), and what a call answers at a place. Assumes nothing.
use Rattle.std.specs.Prelude.{ℕ, ◌+◌, ◌*◌, ◌%◌, Bool, ◌||◌, cond, not, List, length, get_or, ltb, eqb, Ok, None, Err}
use Rattle.laws.specs.Bytes.{number_in}
use Rattle.uf2_block.specs.Block.{field_at, has_flag, is_block}
use Rattle.uf2_tags.specs.declared.one_tag.TagError.TheVariants.{BadLength, BadPlace, NotBlock, BadPayload, NoRoom}
use Rattle.uf2_tags.specs.Tag.{Answer, sized}

-- "tags start after the payload": the first place, an offset in the block (000: "it starts at 32 + payloadSize")
unfoldable pub first_place : List ℕ → ℕ
first_place b = 32 + field_at b 16

-- "size byte, three type bytes little-endian, contents": the type of a tag at a place
unfoldable pub kind_at : List ℕ → ℕ → ℕ
kind_at b at = number_in 3 b (at + 1)

-- "Tags may use data up to byte 475, or 451 if flag 0x4000 is set": the offset after it, data starting at 32
unfoldable pub room_end : List ℕ → ℕ
room_end b = cond (has_flag b 0x4000) 484 508

-- "61 payload size over 476 or not a multiple of 4"
unfoldable pub bad_payload : ℕ → Bool
bad_payload size = ltb 476 size || not (eqb (size % 4) 0)

-- "3: a handed place before the payload's end or no multiple of 4"
unfoldable pub bad_place : ℕ → ℕ → Bool
bad_place from at = ltb at from || not (eqb (at % 4) 0)

-- what stands at a place: "then 3", and at a tag "65 under 4 bytes left where a tag should start", then the others
abbrev pub stands_at : List ℕ → ℕ → Answer
stands_at b at =
    cond (bad_place (first_place b) at) (Err BadPlace)
    (cond (ltb (room_end b) (at + 4)) (Err NoRoom)
    (sized (get_or b at 0) (kind_at b at) at (room_end b)))

-- what a call answers at a place of a block: "A wrong length is 1, not a block 4; a clear flag 0x8000 gives the end; then 61 ..
-- Every call checks these, then 3 ..", and at a tag "65 under 4 bytes left where a tag should start", then the others
unfoldable pub tag_at : List ℕ → ℕ → Answer
tag_at b at =
    cond (not (eqb (length b) 512)) (Err BadLength)
    (cond (not (is_block b)) (Err NotBlock)
    (cond (not (has_flag b 0x8000)) (Ok None)
    (cond (bad_payload (field_at b 16)) (Err BadPayload)
    (stands_at b at))))
