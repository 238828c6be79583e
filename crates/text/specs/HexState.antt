-- The lines of text of the program for lines of Universal Hex, in ASCII: the last one, "state ended offset 1552 v1 1 v2 1",
-- "state failed 24 offset 36 v1 0 v2 0", "state failed 22 position 9 offset 80 v1 1 v2 0". Assumes nothing.
use Rattle.std.specs.Prelude.{ℕ, List, ◌∷◌, ◌++◌}
use Rattle.uhex_grammar.specs.declared.Boards.{Boards}
use Rattle.uhex_grammar.specs.declared.ReaderState.{ReaderState}
use Rattle.uhex_grammar.specs.declared.ReaderState.TheVariants.{Between, Opened, Inside, Padded, Ended, Failed}
use Rattle.uhex_effects.specs.declared.Reader.{Reader}
use Rattle.text.specs.Ascii.{ascii}
use Rattle.text.specs.Parts.{decimal_of, flag_digit}
use Rattle.text.specs.HexAnswer.{failed_text}

-- "state between", "state opened", "state inside", "state padded", "state ended", or that of a failed reader
unfoldable pub reader_state_text : ReaderState → List ℕ
reader_state_text Between = ascii "state between"
reader_state_text Opened = ascii "state opened"
reader_state_text (Inside b) = ascii "state inside"
reader_state_text (Padded b) = ascii "state padded"
reader_state_text Ended = ascii "state ended"
reader_state_text (Failed f) = failed_text f.answer

-- " v1 ", 1 where V1 gave a data byte and 0 where not, " v2 " and the same of V2, and the line's end
abbrev pub data_seen_text : Boards → List ℕ
data_seen_text b =
    ascii " v1 " ++ (flag_digit b.v1 ∷ ascii " v2 ") ++ (flag_digit b.v2 ∷ ascii "\n")

-- where the reader stands, " offset ", the offset, and the boards that gave data
unfoldable pub hex_state_line : Reader → List ℕ
hex_state_line r =
    reader_state_text r.state ++ ascii " offset " ++ decimal_of r.offset ++ data_seen_text r.data_seen
