-- What is claimed of whole files, and of any lines that are answered 32 to 34. Proved in proofs/Claims.antt. Assumes nothing.
use Rattle.std.specs.Prelude.{ℕ, ◌+◌, ◌≤◌, ◌<◌, ◌≡◌, ◌⊎◌, ◌≢◌, List, [], ◌∷◌, ◌++◌, length, replicate}
use Rattle.uhex_grammar.specs.Answers.{number_of}
use Rattle.uhex_grammar.specs.declared.Answer.{Answer}
use Rattle.uhex_grammar.specs.declared.Answer.TheVariants as answer
use Rattle.uhex_grammar.specs.declared.ReaderState.TheVariants as state
use Rattle.uhex_claims.specs.Lines.{Session, fresh_session, read_line, read_all, line_answers, stores_of}
use Rattle.uhex_claims.specs.Items.{Item, Says}
use Rattle.uhex_claims.specs.Whole.{data_type_of, Section, section_items, board_of, IsSection, all_items, File}
use Rattle.uhex_claims.specs.State.{between, body, padded, State, begin, state_after, address_of, answers_for, image_for, stores_for, both_of, reader_of}

-- a fresh reader of V1 or V2, and an image of 1 to 1,048,576 bytes
pub record Setup (own : ℕ) (img : List ℕ) : Type 0 where
  pub board : (own ≡ 0x9900) ⊎ (own ≡ 0x9903)
  pub some : 1 ≤ length img
  pub most : length img ≤ 1048576

-- ---- a whole file

-- its lines are answered 32 to 34, each by its record, the board of its section, the latest 04 and the image's length, and the last 35;
-- the image is what was lent with the data of the own board's section, what is stored is that data as far as it lies in the image, record by
-- record, and the reader is after the end
pub record FileEnd (own : ℕ) (img : List ℕ) (ls : List (List ℕ)) (xs : List Item) : Type 0 where
  pub answers : line_answers (fresh_session own img) ls ≡ answers_for own (length img) begin xs ++ (answer.Ended ∷ [])
  pub image : (read_all (fresh_session own img) ls).image ≡ image_for own begin xs img
  pub stores : stores_of (fresh_session own img) ls ≡ stores_for own (length img) begin xs
  pub ended : (read_all (fresh_session own img) ls).reader.state ≡ state.Ended

-- so are the lines of every file
unfoldable pub FileEnds : Type 0
FileEnds =
    (own : ℕ) (img : List ℕ) (ls : List (List ℕ)) (xs : List Item) → Setup own img → Says ls xs → (f : File xs) → FileEnd own img ls (all_items f.sections)

-- of this every section of another board is passed over: it leaves the image, and each of its lines is answered 34
unfoldable pub OtherSectionsPass : Type 0
OtherSectionsPass =
    (own : ℕ) (s : State) (sec : Section) → s.place ≡ between → IsSection sec → board_of sec ≢ own
    → ((img : List ℕ) → image_for own s (section_items sec) img ≡ img)
    × ((n : ℕ) → answers_for own n s (section_items sec) ≡ replicate (length (section_items sec)) answer.Passed)

-- and no others: lines of which the last is answered 35 are a file
unfoldable pub EndedIsFile : Type 0
EndedIsFile =
    (own : ℕ) (img : List ℕ) (ls : List (List ℕ)) (l : List ℕ) → Setup own img → (read_line (read_all (fresh_session own img) ls) l).answer ≡ answer.Ended
    → (xs : List Item) × Says (ls ++ (l ∷ [])) xs × File xs

-- ---- any lines

-- all are answered 32 to 34
pub data Acceptance : List Answer → Type 0 where
  none : Acceptance []
  next : {a : Answer} {rest : List Answer} → 32 ≤ number_of a → number_of a ≤ 34 → Acceptance rest → Acceptance (a ∷ rest)

-- the reader, the answers and the image are what the records say
pub record Agreement (own : ℕ) (img : List ℕ) (ls : List (List ℕ)) (xs : List Item) : Type 0 where
  pub reader : (read_all (fresh_session own img) ls).reader ≡ reader_of own (state_after begin xs)
  pub answers : line_answers (fresh_session own img) ls ≡ answers_for own (length img) begin xs
  pub image : (read_all (fresh_session own img) ls).image ≡ image_for own begin xs img

-- after any such lines
unfoldable pub TakenIsKnown : Type 0
TakenIsKnown =
    (own : ℕ) (img : List ℕ) (ls : List (List ℕ)) → Setup own img → Acceptance (line_answers (fresh_session own img) ls)
    → (xs : List Item) × Says ls xs × Agreement own img ls xs

-- what the reader keeps of records: the latest 04, the boards that were named and those that gave a data byte; and the image
pub record Memory (own : ℕ) (img : List ℕ) (ls : List (List ℕ)) (xs : List Item) : Type 0 where
  pub upper : (read_all (fresh_session own img) ls).reader.upper ≡ (state_after begin xs).upper
  pub sections : (read_all (fresh_session own img) ls).reader.sections_seen ≡ both_of (state_after begin xs).section_seen
  pub given : (read_all (fresh_session own img) ls).reader.data_seen ≡ both_of (state_after begin xs).data_seen
  pub image : (read_all (fresh_session own img) ls).image ≡ image_for own begin xs img

-- lines of which none is taken by 32 to 34: there is none, or the first is answered otherwise
pub data Stop (s : Session) : List (List ℕ) → Type 0 where
  no_line : Stop s []
  other_answer : {l : List ℕ} {ls : List (List ℕ)} → (number_of (read_line s l).answer < 32) ⊎ (34 < number_of (read_line s l).answer) → Stop s (l ∷ ls)

-- after any lines, failures and the end among them, it is what the lines before the first such one say
unfoldable pub MemoryIsRecords : Type 0
MemoryIsRecords =
    (own : ℕ) (img : List ℕ) (ls : List (List ℕ)) → Setup own img
    → (ks : List (List ℕ)) × (rest : List (List ℕ)) × (xs : List Item) × (ls ≡ ks ++ rest) × Says ks xs × Acceptance (line_answers (fresh_session own img) ks)
    × Stop (read_all (fresh_session own img) ks) rest × Memory own img ls xs

-- data of the own board's section, of at least one byte, that lies wholly in an image of n bytes, by the records before it
pub record OwnStore (own n : ℕ) (s : State) (x : Item) : Type 0 where
  pub section : s.place ≡ body own
  pub kind : x.kind ≡ data_type_of own
  pub some : 1 ≤ length x.bytes
  pub fits : address_of s x + length x.bytes ≤ n

-- "33 Stored": a line that stores, after any lines, is that
unfoldable pub StoredIsOwn : Type 0
StoredIsOwn =
    (own : ℕ) (img : List ℕ) (ls : List (List ℕ)) (l : List ℕ) → Setup own img → (read_line (read_all (fresh_session own img) ls) l).answer ≡ answer.Stored
    → (xs : List Item) × (x : Item) × Says ls xs × Says (l ∷ []) (x ∷ []) × OwnStore own (length img) (state_after begin xs) x

-- the wrong board's section: no line in the section of a board that is not the own one changes the image
unfoldable pub OtherBoardUntouched : Type 0
OtherBoardUntouched =
    (own : ℕ) (img : List ℕ) (ls : List (List ℕ)) (l : List ℕ) (xs : List Item) (b : ℕ) → Setup own img → Acceptance (line_answers (fresh_session own img) ls)
    → Says ls xs → b ≢ own → ((state_after begin xs).place ≡ body b) ⊎ ((state_after begin xs).place ≡ padded b)
    → (read_line (read_all (fresh_session own img) ls) l).image ≡ (read_all (fresh_session own img) ls).image
