-- A line for a reader that is neither failed nor at the end (01, "Universal Hex, a line at a time", rows 20 to 36). Assumes nothing.
use Rattle.std.specs.Prelude.{ℕ, ◌+◌, cond, List, ltb, length}
use Rattle.ihex_record.specs.Record.{ParseResult, on_record, read_of}
use Rattle.uhex_grammar.specs.Answers.{refusal_of}
use Rattle.uhex_grammar.specs.declared.Answer.TheVariants as answer
use Rattle.uhex_effects.specs.declared.Reader.{Reader}
use Rattle.uhex_reader.specs.Outcome.{LineOutcome, failing, record_outcome}

-- rows 20 to 25, then the record
unfoldable pub parsed_line : Reader → List ℕ → ℕ → List ℕ → ParseResult → LineOutcome
parsed_line r d e img p = on_record (failing r (refusal_of p) img) (λ rec. record_outcome r rec d e img) p

-- row 36: "offset with this line passes the limit"
unfoldable pub live_line : Reader → List ℕ → List ℕ → LineOutcome
live_line r l img =
    cond (ltb 4194304 (r.offset + length l)) (failing r answer.FileTooLong img)
    (parsed_line r (read_of l).«data» (r.offset + length l) img (read_of l).parsed)
