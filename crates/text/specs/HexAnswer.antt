-- The lines of text of the program for lines of Universal Hex, in ASCII: that of an answer. Assumes nothing.
use Rattle.std.specs.Prelude.{ℕ, cond, List, [], ◌++◌, eqb}
use Rattle.uhex_grammar.specs.Answers.{number_of, position_of}
use Rattle.uhex_grammar.specs.declared.Answer.{Answer}
use Rattle.text.specs.Ascii.{ascii}
use Rattle.text.specs.Parts.{decimal_of, pair_text}

-- " position " and the position of a bad digit, or nothing
unfoldable pub position_text : ℕ → List ℕ
position_text p = cond (eqb p 0) [] (ascii " position " ++ decimal_of p)

-- the line of an answer: "0 34", "3 22 position 9"
unfoldable pub hex_answer_line : ℕ → Answer → List ℕ
hex_answer_line index a = pair_text index (number_of a) ++ position_text (position_of a) ++ ascii "\n"

-- "state failed ", the number of the remembered answer, and its position
unfoldable pub failed_text : Answer → List ℕ
failed_text a = ascii "state failed " ++ decimal_of (number_of a) ++ position_text (position_of a)
