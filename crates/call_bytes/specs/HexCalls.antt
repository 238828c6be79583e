-- What the calls for Universal Hex answer and leave. Assumes nothing.
use Rattle.std.specs.Prelude.{ℕ, ◌+◌, ◌*◌, List}
use Rattle.uhex_grammar.specs.Answers.{number_of, position_of}
use Rattle.uhex_grammar.specs.declared.Answer.{Answer}
use Rattle.uhex_effects.specs.declared.Reader.{Reader}
use Rattle.uhex_reader.specs.Line.{LineOutcome, line_of}
use Rattle.uhex_layout.specs.Readers.{reader_from}
use Rattle.uhex_layout.specs.Kept.{has_failed, changes, kept_reader}

-- what is returned, and what the lent bytes hold
pub record LineReturn : Type 0 where
  pub result : ℕ
  pub reader : List ℕ
  pub image : List ℕ

-- all of them as one value, which the contract names
abbrev pub line_return : ℕ → List ℕ → List ℕ → LineReturn
line_return n t img = record { result = n; reader = t; image = img }

-- what is returned: the answer's number, and 256 times its position
abbrev pub line_result : Answer → ℕ
line_result a = number_of a + 256 * position_of a

-- what a call returns and leaves of a line to reader r that comes to o; t is the reader's bytes as they were lent
abbrev pub line_return_of : List ℕ → Reader → LineOutcome → LineReturn
line_return_of t r o =
    line_return (line_result o.answer) (kept_reader t (changes (has_failed r.state) o.answer) o.reader) o.image

-- bytes of a reader, line and image
unfoldable pub line_call_of : List ℕ → List ℕ → List ℕ → LineReturn
line_call_of t l img = line_return_of t (reader_from t) (line_of (reader_from t) l img)
