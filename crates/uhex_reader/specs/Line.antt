-- One line: the next reader, the answer, and the image as it is left (01, "Universal Hex, a line at a time"). The definitions of a good record's
-- outcome and of a line that is read are passed on. Assumes nothing.
use Rattle.std.specs.Prelude.{ℕ, Bool, ◌||◌, cond, List, ltb, length, Option, Some, None}
use Rattle.uhex_grammar.specs.Answers.{number_of}
use Rattle.uhex_grammar.specs.declared.Answer.{Answer}
use Rattle.uhex_grammar.specs.declared.Answer.TheVariants as answer
use Rattle.uhex_grammar.specs.declared.ReaderState.{ReaderState}
use Rattle.uhex_grammar.specs.declared.ReaderState.TheVariants.{Between, Opened, Inside, Padded, Ended, Failed}
use Rattle.uhex_effects.specs.declared.Reader.{Reader}
use Rattle.uhex_effects.specs.Reader.{bad_reader}
pub use Rattle.uhex_reader.specs.Outcome.{LineOutcome, reply, line_outcome, failed_by, failing, address_of, outside, stored_at, record_effect}
unfoldable pub use Rattle.uhex_reader.specs.Outcome.{storing, effect_outcome, record_outcome}
unfoldable pub use Rattle.uhex_reader.specs.Live.{parsed_line, live_line}

-- "A failed reader repeats its number and changes nothing. After the end: 31 AfterEnd, nothing changes."
abbrev pub halt_of : ReaderState → Option Answer
halt_of Between = None
halt_of Opened = None
halt_of (Inside b) = None
halt_of (Padded b) = None
halt_of Ended = Some answer.AfterEnd
halt_of (Failed f) = Some f.answer

-- a line to a reader that reads no further, or to one that does
unfoldable pub halt_line : Reader → List ℕ → List ℕ → Option Answer → LineOutcome
halt_line r l img None = live_line r l img
halt_line r l img (Some a) = line_outcome r a img

-- row 19: a board image has "1 to 1,048,576 bytes"
abbrev pub bad_image : ℕ → Bool
bad_image n = ltb n 1 || ltb 1048576 n

-- rows 19 and 18, which change nothing, then the rest
unfoldable pub line_of : Reader → List ℕ → List ℕ → LineOutcome
line_of r l img =
    cond (bad_image (length img)) (line_outcome r answer.BadImage img)
    (cond (bad_reader r) (line_outcome r answer.BadReader img) (halt_line r l img (halt_of r.state)))

-- and the answer by 01's number
unfoldable pub line_number : Reader → List ℕ → List ℕ → ℕ
line_number r l img = number_of (line_of r l img).answer
