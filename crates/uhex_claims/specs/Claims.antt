-- What is claimed of lists of lines. Proved in proofs/Claims.antt. Assumes nothing.
use Rattle.std.specs.Prelude.{ℕ, ◌+◌, ◌≤◌, ◌≡◌, true, false, ◌||◌, cond, List, ◌∷◌, ◌++◌, length, get_or, replicate}
use Rattle.laws.specs.Stores.{Store, covers, byte_of, any_covers, latest}
use Rattle.ihex_record.specs.declared.Record.{Record}
use Rattle.uhex_grammar.specs.Answers.{number_of, is_failure}
use Rattle.uhex_grammar.specs.Boards.{is_v1, is_v2, has_board}
use Rattle.uhex_grammar.specs.declared.Answer.TheVariants.{Repeated, AfterEnd, Stored, Passed, Ended}
use Rattle.uhex_reader.specs.Line.{bad_image}
use Rattle.uhex_claims.specs.Facts.{OwnData, NamesBoard}
use Rattle.uhex_claims.specs.Lines.{Session, fresh_session, read_line, next, read_all, line_answers, stores_of, bytes_taken, any_gives, any_names, latest_upper}

-- ---- the image, over any lines from any reader, a fresh one too: it differs from what was lent only where own data was stored, and
-- holds the latest such byte there

-- each byte is the latest that was stored there, or as lent
unfoldable pub ImageIsLatest : Type 0
ImageIsLatest =
    (h : Session) (ls : List (List ℕ)) (j : ℕ) → get_or (read_all h ls).image j 0 ≡ latest j (stores_of h ls) (get_or h.image j 0)

-- and the image keeps its length
unfoldable pub ImageLengthKept : Type 0
ImageLengthKept = (h : Session) (ls : List (List ℕ)) → length (read_all h ls).image ≡ length h.image

-- where no store has byte j it is as lent
unfoldable pub OthersAsLent : Type 0
OthersAsLent =
    (h : Session) (ls : List (List ℕ)) (j : ℕ) → any_covers (stores_of h ls) j ≡ false → get_or (read_all h ls).image j 0 ≡ get_or h.image j 0

-- where s is the last store that has it, it is the byte of s
unfoldable pub LastStoreStands : Type 0
LastStoreStands =
    (h : Session) (ls : List (List ℕ)) (j : ℕ) (before after : List Store) (s : Store) → stores_of h ls ≡ before ++ (s ∷ after)
    → covers s j ≡ true → any_covers after j ≡ false → get_or (read_all h ls).image j 0 ≡ byte_of s j

-- a line that stores, after any lines, is data of the own board in its section
unfoldable pub StoresAreOwn : Type 0
StoresAreOwn =
    (own : ℕ) (img : List ℕ) (ls : List (List ℕ)) (l : List ℕ) → let h = read_all (fresh_session own img) ls in
    (read_line h l).answer ≡ Stored → (h.reader.own ≡ own) × ((rec : Record) × OwnData h.reader l h.image rec)

-- ---- the answers

-- from a fresh reader of V1 or V2 with a good image no answer is 18 or 19
unfoldable pub NeverBad : Type 0
NeverBad =
    (own : ℕ) (img : List ℕ) (ls : List (List ℕ)) (l : List ℕ) → is_v1 own || is_v2 own ≡ true → bad_image (length img) ≡ false
    → 20 ≤ number_of (read_line (read_all (fresh_session own img) ls) l).answer

-- "A failed reader repeats its number and changes nothing": after a failure every answer is that one, and "earlier stores stay"
unfoldable pub FailureStays : Type 0
FailureStays =
    (h : Session) (l : List ℕ) (ls : List (List ℕ)) → is_failure (read_line h l).answer ≡ true
    → (read_all (next h l) ls ≡ next h l) × (line_answers (next h l) ls ≡ replicate (length ls) (read_line h l).answer)

-- "After the end: 31 AfterEnd, nothing changes."
unfoldable pub EndStays : Type 0
EndStays =
    (h : Session) (l : List ℕ) (ls : List (List ℕ)) → (read_line h l).answer ≡ Ended
    → (read_all (next h l) ls ≡ next h l) × (line_answers (next h l) ls ≡ replicate (length ls) AfterEnd)

-- ---- what the reader has counted

-- "Only 32 to 35 move the offset, by the line as handed, ending included."
unfoldable pub OffsetIsSum : Type 0
OffsetIsSum = (h : Session) (ls : List (List ℕ)) → (read_all h ls).reader.offset ≡ h.reader.offset + bytes_taken h ls

-- from a fresh reader the offset is the sum of their lengths
unfoldable pub FreshOffsetIsSum : Type 0
FreshOffsetIsSum =
    (own : ℕ) (img : List ℕ) (ls : List (List ℕ)) → (read_all (fresh_session own img) ls).reader.offset ≡ bytes_taken (fresh_session own img) ls

-- the reader knows of V1 and of V2 whether it "gave a data byte, stored or not"
unfoldable pub DataSeenIsGiven : Type 0
DataSeenIsGiven =
    (own : ℕ) (img : List ℕ) (ls : List (List ℕ)) (b : ℕ) → is_v1 b || is_v2 b ≡ true
    → has_board (read_all (fresh_session own img) ls).reader.data_seen b ≡ any_gives (fresh_session own img) ls b

-- 35 comes only once both did
unfoldable pub EndAfterBoth : Type 0
EndAfterBoth =
    (own : ℕ) (img : List ℕ) (ls : List (List ℕ)) (l : List ℕ) → (read_line (read_all (fresh_session own img) ls) l).answer ≡ Ended
    → (any_gives (fresh_session own img) ls 0x9900 ≡ true) × (any_gives (fresh_session own img) ls 0x9903 ≡ true)

-- and whether a section of V1 or of V2 came: a line was taken as the 0A that names it
unfoldable pub SectionsSeenAreNamed : Type 0
SectionsSeenAreNamed =
    (own : ℕ) (img : List ℕ) (ls : List (List ℕ)) (b : ℕ) → is_v1 b || is_v2 b ≡ true
    → has_board (read_all (fresh_session own img) ls).reader.sections_seen b ≡ any_names (fresh_session own img) ls b

-- "28 Repeated: a second V1 or V2 section": an 0A in its place, within the limit, is answered so exactly if an earlier one named its board
unfoldable pub SecondIsRepeated : Type 0
SecondIsRepeated =
    (own : ℕ) (img : List ℕ) (ls : List (List ℕ)) (l : List ℕ) (rec : Record) (b : ℕ) → is_v1 own || is_v2 own ≡ true → bad_image (length img) ≡ false
    → is_v1 b || is_v2 b ≡ true → let h = read_all (fresh_session own img) ls in
    h.reader.offset + length l ≤ 4194304 → NamesBoard h.reader l rec b
    → (read_line h l).answer ≡ cond (any_names (fresh_session own img) ls b) Repeated Passed

-- for the addresses of data it keeps "the latest 04's two bytes, high first", and 0 before any 04
unfoldable pub UpperIsLatest : Type 0
UpperIsLatest =
    (own : ℕ) (img : List ℕ) (ls : List (List ℕ)) → (read_all (fresh_session own img) ls).reader.upper ≡ latest_upper (fresh_session own img) ls 0
