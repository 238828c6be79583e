-- What is claimed of one line, whatever the reader, the line and the image (01, "Universal Hex, a line at a time"). Proved in
-- proofs/Facts.antt. Assumes nothing.
use Rattle.std.specs.Prelude.{ℕ, ◌+◌, ◌≤◌, ◌<◌, ◌≡◌, ◌⊎◌, ◌≢◌, ◌↔◌, Bool, true, false, ◌&&◌, cond, List, leb, length, get_or, take, Ok, Err}
use Rattle.laws.specs.Over.{over}
use Rattle.ihex_record.specs.Record.{word_of, text_of, is_digit, read_of}
use Rattle.ihex_record.specs.declared.Record.{Record}
use Rattle.ihex_record.specs.declared.LineError.TheVariants.{BadDigit}
use Rattle.uhex_grammar.specs.Answers.{number_of, is_failure}
use Rattle.uhex_grammar.specs.Boards.{has_board, both_boards}
use Rattle.uhex_grammar.specs.Grammar.{data_kind}
use Rattle.uhex_grammar.specs.declared.Answer.{Answer}
use Rattle.uhex_grammar.specs.declared.Answer.TheVariants as answer
use Rattle.uhex_grammar.specs.declared.Failure.{Failure}
use Rattle.uhex_grammar.specs.declared.ReaderState.{ReaderState}
use Rattle.uhex_grammar.specs.declared.ReaderState.TheVariants.{Between, Opened, Inside, Padded, Ended, Failed}
use Rattle.uhex_effects.specs.declared.Reader.{Reader}
use Rattle.uhex_reader.specs.Reader.{bad_reader}
use Rattle.uhex_reader.specs.Line.{LineOutcome, line_outcome, failing, address_of, bad_image, line_of}

-- what holds of every reader, line and image, and of what the line comes to
abbrev pub EveryLine : (Reader → List ℕ → List ℕ → LineOutcome → Type 0) → Type 0
EveryLine P = (r : Reader) (l img : List ℕ) → P r l img (line_of r l img)

-- a reader that has neither failed nor come to the end
abbrev pub reads_on : ReaderState → Bool
reads_on Between = true
reads_on Opened = true
reads_on (Inside b) = true
reads_on (Padded b) = true
reads_on Ended = false
reads_on (Failed f) = false

-- ---- what changes nothing

-- every answer but 33 leaves the image as lent
unfoldable pub Only33Stores : Type 0
Only33Stores = EveryLine (λ r l img o. o.answer ≢ answer.Stored → o.image ≡ img)

-- and no answer changes its length
unfoldable pub LengthKept : Type 0
LengthKept = EveryLine (λ r l img o. length o.image ≡ length img)

-- a reader and an image that rows 18 and 19 let through
pub record Ready (r : Reader) (img : List ℕ) : Type 0 where
  pub image : bad_image (length img) ≡ false
  pub reader : bad_reader r ≡ false

-- 18 and 19 are the answers to what they do not let through, and to nothing else
unfoldable pub BadExactly : Type 0
BadExactly = EveryLine (λ r l img o. (20 ≤ number_of o.answer) ↔ Ready r img)

-- 19 and 18: "both change nothing"
unfoldable pub BadChangesNothing : Type 0
BadChangesNothing = EveryLine (λ r l img o. number_of o.answer ≤ 19 → o ≡ line_outcome r o.answer img)

-- "A failed reader repeats its number and changes nothing."; "number and position" (02), which is a value of its answer
unfoldable pub FailedRepeats : Type 0
FailedRepeats =
    EveryLine (λ r l img o. (f : Failure) → Ready r img → r.state ≡ Failed f → o ≡ line_outcome r f.answer img)

-- "After the end: 31 AfterEnd, nothing changes."
unfoldable pub AfterEndStated : Type 0
AfterEndStated = EveryLine (λ r l img o. Ready r img → r.state ≡ Ended → o ≡ line_outcome r answer.AfterEnd img)

-- ---- what changes the reader

-- "20 to 30 and 36 make the reader failed and store nothing"
unfoldable pub FailuresFail : Type 0
FailuresFail = EveryLine (λ r l img o. is_failure o.answer ≡ true → o ≡ failing r o.answer img)

-- 32 to 35
abbrev pub moves_offset : Answer → Bool
moves_offset a = leb 32 (number_of a) && leb (number_of a) 35

-- "Only 32 to 35 move the offset, by the line as handed, ending included."
abbrev pub move_of : Answer → List ℕ → ℕ
move_of a l = cond (moves_offset a) (length l) 0

-- by any line, from any reader
unfoldable pub OffsetMoves : Type 0
OffsetMoves = EveryLine (λ r l img o. o.reader.offset ≡ r.offset + move_of o.answer l)

-- the own board stays
unfoldable pub OwnKept : Type 0
OwnKept = EveryLine (λ r l img o. o.reader.own ≡ r.own)

-- a reader that row 18 lets through is let through again
unfoldable pub StaysGood : Type 0
StaysGood = EveryLine (λ r l img o. bad_reader r ≡ false → bad_reader o.reader ≡ false)

-- 35 comes only once "V1 and V2 each gave a data byte", and the reader stands after the end
unfoldable pub EndEnds : Type 0
EndEnds = EveryLine (λ r l img o. o.answer ≡ answer.Ended → (both_boards r.data_seen ≡ true) × (o.reader.state ≡ Ended))

-- "30 MissingBoard: 01 before V1 and V2 each gave a data byte": a 01 between sections, within the limit
unfoldable pub EndOrMissing : Type 0
EndOrMissing =
    EveryLine
    (λ r l img o.
    (rec : Record) → Ready r img → r.offset + length l ≤ 4194304 → (read_of l).parsed ≡ Ok rec → r.state ≡ Between → rec.kind ≡ 1
    → rec.len ≡ 0 → o.answer ≡ cond (both_boards r.data_seen) answer.Ended answer.MissingBoard)

-- a line's record is, after a section's opening 04, an "0A with at least 2 data bytes, the first two naming the board" b
pub record NamesBoard (r : Reader) (l : List ℕ) (rec : Record) (b : ℕ) : Type 0 where
  pub says : (read_of l).parsed ≡ Ok rec
  pub opened : r.state ≡ Opened
  pub kind : rec.kind ≡ 10
  pub some : 2 ≤ rec.len
  pub board : word_of (read_of l).«data» ≡ b

-- "28 Repeated: a second V1 or V2 section": such a line within the limit is answered 28 where the board's section came, and 34 where not
unfoldable pub PassedOrRepeated : Type 0
PassedOrRepeated =
    EveryLine
    (λ r l img o.
    (rec : Record) (b : ℕ) → Ready r img → r.offset + length l ≤ 4194304 → NamesBoard r l rec b
    → o.answer ≡ cond (has_board r.sections_seen b) answer.Repeated answer.Passed)

-- ---- what is stored

-- a line's record is own data of at least one byte, wholly in the image
pub record OwnData (r : Reader) (l img : List ℕ) (rec : Record) : Type 0 where
  pub says : (read_of l).parsed ≡ Ok rec
  pub section : r.state ≡ Inside r.own
  pub kind : rec.kind ≡ data_kind r.own
  pub some : 1 ≤ rec.len
  pub within : rec.address + rec.len ≤ 65536
  pub fits : address_of r rec + rec.len ≤ length img

-- what an image is with the record's data at its address: as one list, and byte by byte
pub record StoreIn (r : Reader) (l img : List ℕ) (rec : Record) (out : List ℕ) : Type 0 where
  pub whole : out ≡ over img (address_of r rec) (take rec.len (read_of l).«data»)
  pub inside : (i : ℕ) → i < rec.len → get_or out (address_of r rec + i) 0 ≡ get_or (read_of l).«data» i 0
  pub outside : (j : ℕ) → (j < address_of r rec) ⊎ (address_of r rec + rec.len ≤ j) → get_or out j 0 ≡ get_or img j 0

-- "33 Stored": own data alone, and its bytes alone
unfoldable pub StoresOwnData : Type 0
StoresOwnData =
    EveryLine (λ r l img o. o.answer ≡ answer.Stored → (rec : Record) × OwnData r l img rec × StoreIn r l img rec o.image)

-- and such data within the limit is stored
unfoldable pub OwnDataIsStored : Type 0
OwnDataIsStored =
    EveryLine
    (λ r l img o. (rec : Record) → Ready r img → r.offset + length l ≤ 4194304 → OwnData r l img rec → o.answer ≡ answer.Stored)

-- a line outside the own board's section, or after its first 0C, changes no byte
unfoldable pub ElsewhereUnchanged : Type 0
ElsewhereUnchanged = EveryLine (λ r l img o. r.state ≢ Inside r.own → o.image ≡ img)

-- no line of another board's section changes the image
unfoldable pub OtherBoardUnchanged : Type 0
OtherBoardUnchanged =
    EveryLine (λ r l img o. (b : ℕ) → b ≢ r.own → (r.state ≡ Inside b) ⊎ (r.state ≡ Padded b) → o.image ≡ img)

-- ---- a bad digit (02: "the position of the first bad character, counted from 0 at the colon")

-- of a text, p is the place of the first character after the colon that is no digit
pub record FirstBadAt (t : List ℕ) (p : ℕ) : Type 0 where
  pub after : 1 ≤ p
  pub within : (p < length t) × (p ≤ 520)
  pub bad : is_digit (get_or t p 0) ≡ false
  pub first : (i : ℕ) → 1 ≤ i → i < p → is_digit (get_or t i 0) ≡ true

-- the position of a line that row 22 refuses; its text is a part of the line from its start on
unfoldable pub BadDigitAt : Type 0
BadDigitAt = (l : List ℕ) (p : ℕ) → (read_of l).parsed ≡ Err (BadDigit p) → FirstBadAt (text_of l) p

-- such a line, to a reader that reads on and within the limit, fails it with that position
unfoldable pub BadDigitAnswered : Type 0
BadDigitAnswered =
    EveryLine
    (λ r l img o.
    (p : ℕ) → Ready r img → reads_on r.state ≡ true → r.offset + length l ≤ 4194304 → (read_of l).parsed ≡ Err (BadDigit p)
    → o ≡ failing r (answer.BadDigit p) img)

-- "one handed in with 22 and a position outside 1 to 520 is 18" (02)
unfoldable pub BadPosition : Type 0
BadPosition =
    EveryLine
    (λ r l img o.
    (p : ℕ) → bad_image (length img) ≡ false → r.state ≡ Failed (record { answer = answer.BadDigit p }) → (p < 1) ⊎ (520 < p)
    → o ≡ line_outcome r answer.BadReader img)
