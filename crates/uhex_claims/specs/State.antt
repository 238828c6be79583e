-- What the records so far say, for a file that has not ended: where they leave off, the latest 04, the bytes of their lines, and the boards
-- that were named and that gave a data byte. For records in the order of a file. Assumes nothing.
use Rattle.std.specs.Prelude.{ℕ, ◌+◌, ◌*◌, Bool, false, cond, ◌&&◌, ◌||◌, List, [], ◌∷◌, ◌++◌, leb, eqb, length}
use Rattle.laws.specs.Over.{over}
use Rattle.laws.specs.Stores.{Store}
use Rattle.uhex_grammar.specs.declared.Answer.{Answer}
use Rattle.uhex_grammar.specs.declared.Answer.TheVariants.{Outside, Stored, Passed}
use Rattle.uhex_grammar.specs.declared.Boards.{Boards}
use Rattle.uhex_grammar.specs.declared.ReaderState.{ReaderState}
use Rattle.uhex_grammar.specs.declared.ReaderState.TheVariants.{Between, Opened, Inside, Padded}
use Rattle.uhex_effects.specs.declared.Reader.{Reader}
use Rattle.uhex_claims.specs.Items.{Item, word_of}
use Rattle.uhex_claims.specs.Whole.{data_type_of}

-- where the records leave off: before a section, after its opening 04, after the 0A that names a board, after the first 0C there
pub data Place : Type 0 where
  between : Place
  opened : Place
  body : ℕ → Place
  padded : ℕ → Place

-- and after one more: an 04, an 0A, an 0C or an 0B in its place leads on
unfoldable pub place_after : Place → Item → Place
place_after between x = opened
place_after opened x = body (word_of x)
place_after (body b) x = cond (eqb x.kind 0x0B) between (cond (eqb x.kind 0x0C) (padded b) (body b))
place_after (padded b) x = cond (eqb x.kind 0x0B) between (padded b)

-- the record is in the section of board b, before its first 0C
abbrev pub is_in : Place → ℕ → Bool
is_in between b = false
is_in opened b = false
is_in (body c) b = eqb c b
is_in (padded c) b = false

-- it is data of board b, of at least one byte, in the board's own section
unfoldable pub gives_for : Place → Item → ℕ → Bool
gives_for p x b = is_in p b && (eqb x.kind (data_type_of b) && leb 1 (length x.bytes))

-- it is the 0A that names board b
unfoldable pub names_for : Item → ℕ → Bool
names_for x b = eqb x.kind 0x0A && eqb (word_of x) b

-- all that is known after some records
pub record State : Type 0 where
  pub place : Place
  -- "the latest 04's two bytes, high first"
  pub upper : ℕ
  pub size : ℕ
  -- whether a board was named, and whether it gave a data byte
  pub section_seen : ℕ → Bool
  pub data_seen : ℕ → Bool

-- before the first record
abbrev pub begin : State
begin = record { place = between; upper = 0; size = 0; section_seen = λ b. false; data_seen = λ b. false }

-- after one more
abbrev pub after : State → Item → State
after s x =
    record {
      place = place_after s.place x;
      upper = cond (eqb x.kind 0x04) (word_of x) s.upper;
      size = s.size + x.size;
      section_seen = λ b. s.section_seen b || names_for x b;
      data_seen = λ b. s.data_seen b || gives_for s.place x b;
    }

-- after all of them
unfoldable pub state_after : State → List Item → State
state_after s [] = s
state_after s (x ∷ xs) = state_after (after s x) xs

-- ---- the answers, the image and what is stored

-- "the latest 04's two bytes, high first, times 65,536, plus the record's address field"
abbrev pub address_of : State → Item → ℕ
address_of s x = 65536 * s.upper + x.address

-- the data lies wholly in an image of n bytes
abbrev pub fits_in : ℕ → State → Item → Bool
fits_in n s x = leb (address_of s x + length x.bytes) n

-- to a record of a file but its last: own data of at least one byte is 33 where it lies wholly in the image, else 32; any other 34
unfoldable pub answer_for : ℕ → ℕ → State → Item → Answer
answer_for own n s x = cond (gives_for s.place x own) (cond (fits_in n s x) Stored Outside) Passed

-- to each of them
unfoldable pub answers_for : ℕ → ℕ → State → List Item → List Answer
answers_for own n s [] = []
answers_for own n s (x ∷ xs) = answer_for own n s x ∷ answers_for own n (after s x) xs

-- an image with own data that lies wholly in it
unfoldable pub image_with : ℕ → State → Item → List ℕ → List ℕ
image_with own s x img = cond (gives_for s.place x own && fits_in (length img) s x) (over img (address_of s x) x.bytes) img

-- with that of each, in order
unfoldable pub image_for : ℕ → State → List Item → List ℕ → List ℕ
image_for own s [] img = img
image_for own s (x ∷ xs) img = image_for own (after s x) xs (image_with own s x img)

-- what is stored of a record, in an image of n bytes: own data that lies wholly in it, at its address
unfoldable pub stores_with : ℕ → ℕ → State → Item → List Store
stores_with own n s x = cond (gives_for s.place x own && fits_in n s x) (record { address = address_of s x; bytes = x.bytes } ∷ []) []

-- of each, in order
unfoldable pub stores_for : ℕ → ℕ → State → List Item → List Store
stores_for own n s [] = []
stores_for own n s (x ∷ xs) = stores_with own n s x ++ stores_for own n (after s x) xs

-- ---- the reader

-- its state
abbrev pub reader_state_of : Place → ReaderState
reader_state_of between = Between
reader_state_of opened = Opened
reader_state_of (body b) = Inside b
reader_state_of (padded b) = Padded b

-- V1 and V2, of what is known of any board
abbrev pub both_of : (ℕ → Bool) → Boards
both_of f = record { v1 = f 0x9900; v2 = f 0x9903 }

-- a reader of the own board that knows this and nothing else
abbrev pub reader_of : ℕ → State → Reader
reader_of own s =
    record {
      own = own;
      offset = s.size;
      state = reader_state_of s.place;
      upper = s.upper;
      sections_seen = both_of s.section_seen;
      data_seen = both_of s.data_seen;
    }
