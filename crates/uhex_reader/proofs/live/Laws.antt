-- Laws of a line of a reader that is neither failed nor at the end, one for each way that the code leaves. Assumes nothing.
use Prim.Native.Nat.{ℕ, ◌+◌, ◌≤◌, ◌<◌}
use mathlib.Core.Path.{◌≡◌, ap, sym, ◌∙◌}
use mathlib.Core.List.{List}
use lib.ListN.{length}
use borrow.Author.Tests.{lt-ltb, le-ltb}
use Rattle.std.specs.Prelude.{Err}
use Rattle.ihex_record.specs.declared.LineError.{LineError}
use Rattle.ihex_record.specs.declared.Line.{Line}
use Rattle.ihex_record.specs.Record.{ParseResult, read_of}
use Rattle.uhex_grammar.specs.Answers.{refusal_of}
use Rattle.uhex_grammar.specs.declared.Answer.{Answer}
use Rattle.uhex_grammar.specs.declared.Answer.TheVariants.{FileTooLong}
use Rattle.uhex_effects.specs.declared.Reader.{Reader}
use Rattle.uhex_reader.specs.Outcome.{LineOutcome, failing}
use Rattle.uhex_reader.specs.Live.{parsed_line, live_line}

pub live_too_long : (r : Reader) (l img : List ℕ) (o : LineOutcome) → 4194304 < r.offset + length l → o ≡ failing r FileTooLong img → o ≡ live_line r l img
unfolding live_line
live_too_long r l img o p h = simp (lt-ltb _ _ p) h

pub live_by : (r : Reader) (l img : List ℕ) (x : Line) (p : ParseResult) (o : LineOutcome) → r.offset + length l ≤ 4194304 → x ≡ read_of l → x.parsed ≡ p
    → o ≡ parsed_line r x.«data» (r.offset + length l) img p → o ≡ live_line r l img
unfolding live_line
live_by r l img x p o q h k f =
    simp (le-ltb _ _ q)
    (f
    ∙ ap (parsed_line r x.«data» (r.offset + length l) img) (sym k)
    ∙ ap (λ (y : Line). parsed_line r y.«data» (r.offset + length l) img y.parsed) h)

-- what is read is no record
pub live_refused : (r : Reader) (l img : List ℕ) (x : Line) (e : LineError) (a : Answer) (o : LineOutcome) → r.offset + length l ≤ 4194304 → x ≡ read_of l
    → x.parsed ≡ Err e → a ≡ refusal_of (Err e) → o ≡ failing r a img → o ≡ live_line r l img
unfolding parsed_line
live_refused r l img x e a o q h t k f = live_by r l img x (Err e) o q h t (f ∙ ap (λ (y : Answer). failing r y img) k)
