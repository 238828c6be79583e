-- What the calls about tags answer and leave. Assumes nothing.
use Rattle.std.specs.Prelude.{ℕ, ◌<◌, ◌^◌, ◌≡◌, cond, List, ◌++◌, eqb, length, Ok, Some}
use Rattle.uf2_block.specs.Write.{le32}
use Rattle.uf2_tags.specs.declared.one_tag.Tag.{Tag}
use Rattle.uf2_tags.specs.Tag.{Answer, answer_number, on_tag}
use Rattle.uf2_tags.specs.Room.{tag_at}
use Rattle.uf2_tags.specs.Search.{find_of}

-- what is returned, and what the 16 bytes of `tag` hold
pub record TagCall : Type 0 where
  pub result : ℕ
  pub tag : List ℕ

-- both as one value, which the contracts name
abbrev pub tag_call : ℕ → List ℕ → TagCall
tag_call n l = record { result = n; tag = l }

-- type, start, length and next place (proofs/Laws.antt: they are read back from it)
abbrev pub tag_bytes : ℕ → ℕ → ℕ → ℕ → List ℕ
tag_bytes kind start len next = le32 kind ++ le32 start ++ le32 len ++ le32 next

-- the answer's number, and a tag written over `tag`; every other answer leaves it
abbrev pub tag_call_of : List ℕ → Answer → TagCall
tag_call_of l a = tag_call (answer_number a) (on_tag l (λ (t : Tag). tag_bytes t.kind t.start t.len t.next) a)

-- the places of a tag fit 32 bits, as those of every tag that is found do (proofs/Laws.antt)
abbrev pub Low : Answer → Type 0
Low a = (t : Tag) → a ≡ Ok (Some t) → (t.start < 2 ^ 32) × (t.next < 2 ^ 32)

-- 1 too where `tag` has not 16 bytes
unfoldable pub tag_at_call : List ℕ → ℕ → List ℕ → TagCall
tag_at_call b at l = cond (eqb (length l) 16) (tag_call_of l (tag_at b at)) (tag_call 1 l)

unfoldable pub tag_find_call : List ℕ → ℕ → List ℕ → TagCall
tag_find_call b kind l = cond (eqb (length l) 16) (tag_call_of l (find_of b kind)) (tag_call 1 l)
