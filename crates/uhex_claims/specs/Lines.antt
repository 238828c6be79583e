-- Lists of lines: each line gets the reader that the last one handed back, and the image as that one left it. Assumes nothing.
use Rattle.std.specs.Prelude.{ℕ, ◌+◌, Bool, true, false, cond, ◌&&◌, ◌||◌, List, [], ◌∷◌, ◌++◌, leb, eqb, take}
use Rattle.laws.specs.Stores.{Store}
use Rattle.ihex_record.specs.Record.{ParseResult, on_record, word_of, read_of}
use Rattle.ihex_record.specs.declared.Line.{Line}
use Rattle.uhex_grammar.specs.Answers.{number_of}
use Rattle.uhex_grammar.specs.Grammar.{is_extended_linear, is_block_start, data_kind}
use Rattle.uhex_grammar.specs.declared.Answer.{Answer}
use Rattle.uhex_grammar.specs.declared.ReaderState.{ReaderState}
use Rattle.uhex_grammar.specs.declared.ReaderState.TheVariants.{Between, Opened, Inside, Padded, Ended, Failed}
use Rattle.uhex_effects.specs.declared.Reader.{Reader}
use Rattle.uhex_reader.specs.Reader.{fresh_of}
use Rattle.uhex_reader.specs.Line.{LineOutcome, address_of, line_of}
use Rattle.uhex_claims.specs.Facts.{moves_offset, move_of}

-- what the caller holds between two lines
pub record Session : Type 0 where
  pub reader : Reader
  pub image : List ℕ

-- "a fresh hex reader stands before the first section"
abbrev pub fresh_session : ℕ → List ℕ → Session
fresh_session own img = record { reader = fresh_of own; image = img }

-- a line to the reader and the image that are held
abbrev pub read_line : Session → List ℕ → LineOutcome
read_line h l = line_of h.reader l h.image

-- and what is held after it
abbrev pub next : Session → List ℕ → Session
next h l = record { reader = (read_line h l).reader; image = (read_line h l).image }

-- what the lines leave
unfoldable pub read_all : Session → List (List ℕ) → Session
read_all h [] = h
read_all h (l ∷ ls) = read_all (next h l) ls

-- the answer to each
unfoldable pub line_answers : Session → List (List ℕ) → List Answer
line_answers h [] = []
line_answers h (l ∷ ls) = (read_line h l).answer ∷ line_answers (next h l) ls

-- ---- what is stored

-- the record's data at its address
abbrev pub store_of : Reader → List ℕ → ParseResult → List Store
store_of r d p = on_record [] (λ rec. record { address = address_of r rec; bytes = take rec.len d } ∷ []) p

-- "33 Stored"
abbrev pub is_stored : Answer → Bool
is_stored a = eqb (number_of a) 33

-- of each line answered 33, in the order of the lines
unfoldable pub stores_of : Session → List (List ℕ) → List Store
stores_of h [] = []
stores_of h (l ∷ ls) = cond (is_stored (read_line h l).answer) (store_of h.reader (read_of l).«data» (read_of l).parsed) [] ++ stores_of (next h l) ls

-- ---- what the reader has counted

-- the lengths of the lines answered 32 to 35, together
unfoldable pub bytes_taken : Session → List (List ℕ) → ℕ
bytes_taken h [] = 0
bytes_taken h (l ∷ ls) = move_of (read_line h l).answer l + bytes_taken (next h l) ls

-- the reader is in the section of a board, before its first 0C
abbrev pub is_inside : ReaderState → ℕ → Bool
is_inside Between b = false
is_inside Opened b = false
is_inside (Inside c) b = eqb c b
is_inside (Padded c) b = false
is_inside Ended b = false
is_inside (Failed f) b = false

-- a line says a data record of a board, of at least one byte
abbrev pub says_data : ParseResult → ℕ → Bool
says_data p b = on_record false (λ rec. eqb rec.kind (data_kind b) && leb 1 rec.len) p

-- some line that moved the offset is such, for the reader that it met
unfoldable pub any_line : (Reader → List ℕ → Bool) → Session → List (List ℕ) → Bool
any_line is h [] = false
any_line is h (l ∷ ls) = moves_offset (read_line h l).answer && is h.reader l || any_line is (next h l) ls

-- a line says data of at least one byte in the section of board b
abbrev pub gives : ℕ → Reader → List ℕ → Bool
gives b r l = is_inside r.state b && says_data (read_of l).parsed b

-- "gave a data byte, stored or not"
abbrev pub any_gives : Session → List (List ℕ) → ℕ → Bool
any_gives h ls b = any_line (gives b) h ls

-- the reader is after a section's opening 04
abbrev pub is_opened : ReaderState → Bool
is_opened Between = false
is_opened Opened = true
is_opened (Inside c) = false
is_opened (Padded c) = false
is_opened Ended = false
is_opened (Failed f) = false

-- a line says an "0A with at least 2 data bytes, the first two naming the board" b
abbrev pub says_name : Line → ℕ → Bool
says_name x b = on_record false (λ rec. is_block_start rec.kind rec.len && eqb (word_of x.«data») b) x.parsed

-- a line says the 0A of a section of board b
abbrev pub names : ℕ → Reader → List ℕ → Bool
names b r l = is_opened r.state && says_name (read_of l) b

-- some line named it
abbrev pub any_names : Session → List (List ℕ) → ℕ → Bool
any_names h ls b = any_line (names b) h ls

-- an 04 has its place here: it opens a section, or stands in one before its first 0C
abbrev pub allows_extended_linear : ReaderState → Bool
allows_extended_linear Between = true
allows_extended_linear Opened = false
allows_extended_linear (Inside c) = true
allows_extended_linear (Padded c) = false
allows_extended_linear Ended = false
allows_extended_linear (Failed f) = false

-- a line says an 04: "04 carries 2 bytes"
abbrev pub says_extended_linear : ParseResult → Bool
says_extended_linear p = on_record false (λ rec. is_extended_linear rec.kind rec.len) p

-- a line taken as an 04
abbrev pub sets_upper : Reader → List ℕ → Answer → Bool
sets_upper r l a = moves_offset a && (allows_extended_linear r.state && says_extended_linear (read_of l).parsed)

-- "the latest 04's two bytes, high first", and where none was taken, u
unfoldable pub latest_upper : Session → List (List ℕ) → ℕ → ℕ
latest_upper h [] u = u
latest_upper h (l ∷ ls) u = latest_upper (next h l) ls (cond (sets_upper h.reader l (read_line h l).answer) (word_of (read_of l).«data») u)
