-- The search for a type over a block's extension tags (02, L4). Assumes nothing.
use Rattle.std.specs.Prelude.{ℕ, zero, suc, Bool, true, cond, List, eqb}
use Rattle.uf2_tags.specs.declared.one_tag.Tag.{Tag}
use Rattle.uf2_tags.specs.Tag.{Answer, on_tag}
use Rattle.uf2_tags.specs.Room.{first_place, tag_at}
use Rattle.uf2_tags.specs.Reader.{next_place}

-- does a search for a type end at this answer? At a tag of it, and at all that is no tag
abbrev pub stops : ℕ → Answer → Bool
stops kind a = on_tag true (λ (t : Tag). eqb t.kind kind) a

-- a search from a place on, in at most n calls after the first
unfoldable pub seek : ℕ → List ℕ → ℕ → ℕ → Answer
seek zero b kind at = tag_at b at
seek (suc n) b kind at = cond (stops kind (tag_at b at)) (tag_at b at) (seek n b kind (next_place at (tag_at b at)))

-- the first tag of a type, or the end or the refusal before any: a tag takes 4 of at most 476 bytes, so that call 119, counted from 0, answers none
unfoldable pub find_of : List ℕ → ℕ → Answer
find_of b kind = seek 119 b kind (first_place b)
