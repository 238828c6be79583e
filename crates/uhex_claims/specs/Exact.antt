-- Which answer a line gets, by its record and the reader: the rows 18, 19, 26, 27, 29, 30 and 32 to 36, each by its condition, with types,
-- lengths and boards as 01 has them. Row 28 is hexfile's `PassedOrRepeated`. Proved in proofs/Exact.antt. Assumes nothing.
use Rattle.std.specs.Prelude.{ℕ, ◌+◌, ◌*◌, ◌%◌, ◌≤◌, ◌<◌, ◌≡◌, ◌⊎◌, ◌≢◌, ◌↔◌, true, cond, ◌&&◌, List, ltb, leb, eqb, length, Ok}
use Rattle.ihex_record.specs.Record.{read_of}
use Rattle.ihex_record.specs.declared.Record.{Record}
use Rattle.uhex_grammar.specs.declared.Answer.TheVariants as answer
use Rattle.uhex_grammar.specs.declared.Failure.{Failure}
use Rattle.uhex_grammar.specs.declared.ReaderState.{ReaderState}
use Rattle.uhex_grammar.specs.declared.ReaderState.TheVariants.{Between, Opened, Inside, Padded, Ended, Failed}
use Rattle.uhex_effects.specs.declared.Reader.{Reader}
use Rattle.uhex_reader.specs.Reader.{bad_reader}
use Rattle.uhex_reader.specs.Line.{line_outcome}
use Rattle.uhex_claims.specs.Facts.{EveryLine, Ready}
use Rattle.uhex_claims.specs.Whole.{data_type_of}

-- ---- before the record

-- "19 BadImage (image length), 18 BadReader", in this order; "both change nothing"
unfoldable pub ImageBeforeReader : Type 0
ImageBeforeReader =
    EveryLine
    (λ r l img o.
    ((length img < 1) ⊎ (1048576 < length img) → o ≡ line_outcome r answer.BadImage img)
    × (1 ≤ length img → length img ≤ 1048576 → bad_reader r ≡ true → o ≡ line_outcome r answer.BadReader img))

-- a reader that has not failed and is not after the end, and is let through with its image by rows 19 and 18
pub record Open (r : Reader) (img : List ℕ) : Type 0 where
  pub ready : Ready r img
  pub unended : r.state ≢ Ended
  pub unfailed : (f : Failure) → r.state ≢ Failed f

-- "36 FileTooLong: offset with this line passes the limit", and no other line
unfoldable pub TooLongExactly : Type 0
TooLongExactly = EveryLine (λ r l img o. Open r img → (o.answer ≡ answer.FileTooLong) ↔ (4194304 < r.offset + length l))

-- ---- the record

-- a line within the limit that says the record rec
pub record Reading (r : Reader) (l img : List ℕ) (rec : Record) : Type 0 where
  pub reader : Open r img
  pub within : r.offset + length l ≤ 4194304
  pub says : (read_of l).parsed ≡ Ok rec

-- what holds of every such line, and of its answer
abbrev pub EveryRecord : (Reader → ℕ → Record → Rattle.uhex_grammar.specs.declared.Answer.Answer → Type 0) → Type 0
EveryRecord P = EveryLine (λ r l img o. (rec : Record) → Reading r l img rec → P r (length img) rec o.answer)

-- the types and numbers of data bytes that have a place in a state of the reader
pub data Allowed : ReaderState → ℕ → ℕ → Type 0 where
  opening_04 : Allowed Between 0x04 2
  ending_01 : Allowed Between 0x01 0
  naming_0_a : {n : ℕ} → 2 ≤ n → Allowed Opened 0x0A n
  inside_04 : {b : ℕ} → Allowed (Inside b) 0x04 2
  inside_data : {b kind n : ℕ} → kind ≡ data_type_of b → Allowed (Inside b) kind n
  inside_0_e : {b n : ℕ} → Allowed (Inside b) 0x0E n
  inside_0_c : {b n : ℕ} → Allowed (Inside b) 0x0C n
  inside_0_b : {b n : ℕ} → Allowed (Inside b) 0x0B n
  padded_0_e : {b n : ℕ} → Allowed (Padded b) 0x0E n
  padded_0_c : {b n : ℕ} → Allowed (Padded b) 0x0C n
  padded_0_b : {b n : ℕ} → Allowed (Padded b) 0x0B n

-- "26 OutOfPlace: type or length not allowed there", and no other record
unfoldable pub OutOfPlaceExactly : Type 0
OutOfPlaceExactly = EveryRecord (λ r n rec a. (a ≡ answer.OutOfPlace) ↔ (Allowed r.state rec.kind rec.len → ⊥))

-- "27 Unaligned: a section's opening 04 begins at an offset that is no multiple of 512"
unfoldable pub PassedOrUnaligned : Type 0
PassedOrUnaligned =
    EveryRecord
    (λ r n rec a.
    r.state ≡ Between → rec.kind ≡ 0x04 → rec.len ≡ 2 → a ≡ cond (eqb (r.offset % 512) 0) answer.Passed answer.Unaligned)

-- "29 Crosses: a data record of any board with address field + length over 65,536"; then "32 Outside: own data of at least one byte, not
-- wholly in the image", "33 Stored", and "34 Passed: any other good record, empty data too"
unfoldable pub DataOrCrosses : Type 0
DataOrCrosses =
    EveryRecord
    (λ r n rec a.
    (b : ℕ) → r.state ≡ Inside b → rec.kind ≡ data_type_of b
    → a
    ≡ cond (ltb 65536 (rec.address + rec.len)) answer.Crosses
    (cond (eqb b r.own && leb 1 rec.len)
    (cond (leb (65536 * r.upper + rec.address + rec.len) n) answer.Stored answer.Outside)
    answer.Passed))

-- "30 MissingBoard: 01 before V1 and V2 each gave a data byte"; "35 Ended: the 01"
unfoldable pub EndedOrMissing : Type 0
EndedOrMissing =
    EveryRecord
    (λ r n rec a.
    r.state ≡ Between → rec.kind ≡ 0x01 → rec.len ≡ 0 → a ≡ cond (r.data_seen.v1 && r.data_seen.v2) answer.Ended answer.MissingBoard)

-- "34 Passed": a further 04 in a section
unfoldable pub UpperPasses : Type 0
UpperPasses = EveryRecord (λ r n rec a. (b : ℕ) → r.state ≡ Inside b → rec.kind ≡ 0x04 → rec.len ≡ 2 → a ≡ answer.Passed)

-- and an 0C, 0E or 0B in it, before and after its first 0C
unfoldable pub OthersPass : Type 0
OthersPass =
    EveryRecord
    (λ r n rec a.
    (b : ℕ) → (r.state ≡ Inside b) ⊎ (r.state ≡ Padded b) → (rec.kind ≡ 0x0C) ⊎ (rec.kind ≡ 0x0E) ⊎ (rec.kind ≡ 0x0B)
    → a ≡ answer.Passed)
