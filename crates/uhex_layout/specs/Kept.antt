-- What a line leaves of a reader's bytes. Assumes nothing.
use Rattle.std.specs.Prelude.{ℕ, Bool, true, false, ◌&&◌, ◌||◌, not, cond, List, leb}
use Rattle.uhex_grammar.specs.Answers.{number_of, is_failure}
use Rattle.uhex_grammar.specs.declared.Answer.{Answer}
use Rattle.uhex_grammar.specs.declared.ReaderState.{ReaderState}
use Rattle.uhex_grammar.specs.declared.ReaderState.TheVariants.{Between, Opened, Inside, Padded, Ended, Failed}
use Rattle.uhex_effects.specs.declared.Reader.{Reader}
use Rattle.uhex_layout.specs.Readers.{reader_written}

-- the reader is "a failed reader"
abbrev pub has_failed : ReaderState → Bool
has_failed Between = false
has_failed Opened = false
has_failed (Inside b) = false
has_failed (Padded b) = false
has_failed Ended = false
has_failed (Failed f) = true

-- answers 32 to 35 change the reader, and so do 20 to 30 and 36 where it had not failed before (proofs/Laws.antt of hexbytes: no other answer does)
abbrev pub changes : Bool → Answer → Bool
changes failed a = leb 32 (number_of a) && leb (number_of a) 35 || is_failure a && not failed

-- the bytes of the next reader where it changed; else they stay as they were lent
abbrev pub kept_reader : List ℕ → Bool → Reader → List ℕ
kept_reader t changed next = cond changed (reader_written t next) t
