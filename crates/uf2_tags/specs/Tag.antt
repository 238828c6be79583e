-- One extension tag of a UF2 block (02, L4; 000), and what a call answers. Assumes nothing.
use Rattle.std.specs.Prelude.{ℕ, ◌+◌, ◌-◌, ◌*◌, ◌/◌, Bool, true, false, ◌&&◌, cond, List, take, drop, ltb, leb, eqb, Option, None, Some, Result, Ok, Err}
use Rattle.uf2_tags.specs.declared.one_tag.Tag.{Tag}
use Rattle.uf2_tags.specs.declared.one_tag.TagError.{TagError}
use Rattle.uf2_tags.specs.declared.one_tag.TagError.TheVariants.{BadLength, BadPlace, NotBlock, BadPayload, ShortTag, TypedEnd, PastRoom, NoRoom}

-- what a call answers: a tag, None for the end, or a refusal
abbrev pub Answer : Type 0
Answer = Result (Option Tag) TagError

-- "at 4-byte steps": a tag of a size (000: "total size in bytes (including the size byte and type designation)") and a type at a place, and the next place
unfoldable pub tag_of : ℕ → ℕ → ℕ → Tag
tag_of size kind at = record { kind = kind; start = at + 4; len = size - 4; next = at + (size + 3) / 4 * 4 }

-- the contents of a tag
unfoldable pub contents_of : List ℕ → Tag → List ℕ
contents_of b t = take t.len (drop t.start b)

-- "The end is size 0 and type 0", "62 size 1 to 3, 63 size 0 with a type, 64 a tag past the room"
unfoldable pub sized : ℕ → ℕ → ℕ → ℕ → Answer
sized size kind at end =
    cond (eqb size 0 && eqb kind 0) (Ok None)
    (cond (leb 1 size && leb size 3) (Err ShortTag)
    (cond (eqb size 0) (Err TypedEnd)
    (cond (ltb end (at + size)) (Err PastRoom)
    (Ok (Some (tag_of size kind at))))))

-- the numbers of 02; a tag has 0, and the end, for which 02 has none, 60
abbrev pub error_number : TagError → ℕ
error_number BadLength = 1
error_number BadPlace = 3
error_number NotBlock = 4
error_number BadPayload = 61
error_number ShortTag = 62
error_number TypedEnd = 63
error_number PastRoom = 64
error_number NoRoom = 65

abbrev pub answer_number : Answer → ℕ
answer_number (Ok (Some t)) = 0
answer_number (Ok None) = 60
answer_number (Err e) = error_number e

-- what a tag gives, and d for every other answer
abbrev pub on_tag : {A : Type 0} → A → (Tag → A) → Answer → A
on_tag d f (Ok (Some t)) = f t
on_tag d f (Ok None) = d
on_tag d f (Err e) = d

abbrev pub is_tag : Answer → Bool
is_tag a = on_tag false (λ (t : Tag). true) a
