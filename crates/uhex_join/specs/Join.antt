-- One file from two, or a refusal (02, L11). Assumes nothing.
use Rattle.std.specs.Prelude.{ℕ, ◌≤◌, cond, ◌||◌, List, ltb, length, Ok, Err}
use Rattle.laws.specs.Over.{over}
use Rattle.uhex_grammar.specs.declared.Answer.{Answer}
use Rattle.uhex_grammar.specs.declared.Answer.TheVariants.{FileTooLong}
use Rattle.ihex_file.specs.File.{Verdict, verdict_of}
use Rattle.ihex_data.specs.Pieces.{pieces_of}
use Rattle.uhex_join.specs.Text.{file_text}
-- an answer's number, and refusals
pub use Rattle.uhex_join.specs.Answer.{Joined, joined_number, refusal, refused_by}

-- what is answered, and what the room holds
pub record JoinCall : Type 0 where
  pub answer : Joined
  pub room : List ℕ

-- both as one value, which the contract names
abbrev pub join_call : Joined → List ℕ → JoinCall
join_call x l = record { answer = x; room = l }

-- of the answer to a call
abbrev pub join_number : JoinCall → ℕ
join_number c = joined_number c.answer

-- "A refusal writes nothing"
abbrev pub refused_call : ℕ → ℕ → Answer → List ℕ → JoinCall
refused_call board k a out = join_call (Err (refusal board k a)) out

-- a board's file is refused, or what follows is asked
abbrev pub on_verdict : ℕ → Verdict → List ℕ → JoinCall → JoinCall
on_verdict board (Ok u) out rest = rest
on_verdict board (Err b) out rest = refused_call board b.line b.answer out

-- "Output over 4,194,304 bytes or the lent room is 36"; "room past the output stays"
unfoldable pub written_of : List ℕ → List ℕ → JoinCall
written_of text out =
    cond (ltb 4194304 (length text) || ltb (length out) (length text)) (refused_call 0 0 FileTooLong out)
    (join_call (Ok (length text)) (over out 0 text))

-- a text for which there is room
pub record Fits (text out : List ℕ) : Type 0 where
  pub short : length text ≤ 4194304
  pub room : length text ≤ length out

-- after V1's input, which is fine
abbrev pub second_of : List ℕ → List ℕ → List ℕ → JoinCall
second_of a b out = on_verdict 0x9903 (verdict_of b) out (written_of (file_text (pieces_of a) (pieces_of b)) out)

-- "V1's input whole first"
unfoldable pub join_of : List ℕ → List ℕ → List ℕ → JoinCall
join_of a b out = on_verdict 0x9900 (verdict_of a) out (second_of a b out)
