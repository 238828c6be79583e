-- What the call for one file from two returns, of 64 bits. Assumes nothing.
use Rattle.std.specs.Prelude.{ℕ, ◌+◌, ◌*◌, cond, Ok, Err}
use Rattle.uhex_grammar.specs.Answers.{number_of, position_of}
use Rattle.uhex_grammar.specs.Boards.{is_v1, is_v2}
use Rattle.uhex_join.specs.declared.answers.Refusal.{Refusal}
use Rattle.uhex_join.specs.Answer.{Joined}

-- 1 for V1, 2 for V2; 0 for neither, where the output is too long
abbrev pub board_code : ℕ → ℕ
board_code b = cond (is_v1 b) 1 (cond (is_v2 b) 2 0)

-- a refusal: its number in bits 0 to 7, the position of a 22 in bits 8 to 23, the board from bit 24 on, and the line from bit 32 on
unfoldable pub refusal_result : Refusal → ℕ
refusal_result r =
    number_of r.answer + (256 * position_of r.answer + (16777216 * board_code r.board + 4294967296 * r.line))

-- a file that is written: 0 in bits 0 to 31, and how many bytes from bit 32 on
abbrev pub joined_result : Joined → ℕ
joined_result (Ok n) = 4294967296 * n
joined_result (Err r) = refusal_result r
