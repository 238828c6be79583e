-- The reader of a block's extension tags (02, L4): it "keeps hold of the block it reads and its place, giving tag after tag". Assumes nothing.
use Rattle.std.specs.Prelude.{ℕ, ◌+◌, List}
use Rattle.std.specs.Borrow.{Bor}
use Rattle.uf2_tags.specs.declared.one_tag.Tag.{Tag}
use Rattle.uf2_tags.specs.Tag.{Answer, answer_number, on_tag}
use Rattle.uf2_tags.specs.Room.{first_place, tag_at}
use Rattle.uf2_tags.specs.declared.Move.{Move}
use Rattle.uf2_tags.specs.declared.Tags.{Tags}
use Rattle.uf2_tags.specs.declared.Step.{Step}

-- the place after an answer: "repeated by every later call, as the end is", so that only a tag moves it
abbrev pub next_place : ℕ → Answer → ℕ
next_place at a = on_tag at (λ (t : Tag). t.next) a

-- an answer, and the place after it
abbrev pub step_at : List ℕ → ℕ → Move
step_at b at = record { answer = tag_at b at; next = next_place at (tag_at b at) }

abbrev pub move_number : Move → ℕ
move_number m = answer_number m.answer

-- a fresh reader of a block stands at the first place
abbrev pub started : Bor (List ℕ) → Tags
started b = record { block = b; at = first_place b.now }

-- the reader after a call, and the answer
abbrev pub stepped : Tags → Step
stepped r =
    record {
      reader = record { block = r.block; at = (step_at r.block.now r.at).next };
      answer = (step_at r.block.now r.at).answer;
    }

abbrev pub step_number : Step → ℕ
step_number s = answer_number s.answer
