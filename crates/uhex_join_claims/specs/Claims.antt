-- What is claimed of one file made from two (02, "One file from two"). Proved in proofs/Claims.antt. Assumes nothing.
use Rattle.std.specs.Prelude.{ℕ, ◌+◌, ◌*◌, ◌%◌, ◌≤◌, ◌≡◌, cond, eqb, length, get_or, take, drop, Ok, Err}
use mathlib.Core.List.{List, [], ◌∷◌, ◌++◌, map, flatten}
use Rattle.laws.specs.Stores.{Store, latest}
use Rattle.uhex_grammar.specs.declared.Answer.{Answer}
use Rattle.uhex_grammar.specs.declared.Answer.TheVariants.{Ended, FileTooLong}
use Rattle.ihex_file.specs.Lines.{lines_of}
use Rattle.uhex_claims.specs.Lines.{fresh_session, read_all, line_answers, stores_of}
use Rattle.uhex_claims.specs.Items.{Item, Says, size_of, word_of, item, line_for}
use Rattle.uhex_claims.specs.Whole.{data_type_of, Section, section_items, board_of, File}
use Rattle.uhex_claims.specs.WholefileClaims.{Setup, Acceptance}
use Rattle.uhex_join.specs.declared.answers.Refusal.{Refusal}
use Rattle.uhex_join.specs.Join.{join_of}
use Rattle.uhex_join_claims.specs.Form.{Form}
use Rattle.uhex_join_claims.specs.Refusals.{BadText}
use Rattle.uhex_join_claims.specs.PlainFile.{at, WithData, Cuts, PlainPieces, within}

-- what holds of every output: of the two files, the lent room, and the lines of the n bytes that were written
abbrev pub EveryOutput : (List ℕ → List ℕ → List (List ℕ) → Type 0) → Type 0
EveryOutput P =
    (a b out : List ℕ) (n : ℕ) → (join_of a b out).answer ≡ Ok n → P a b (lines_of (take n (join_of a b out).room))

-- ---- "The output, read for each board, stores what its plain file, so split, stores."

-- what a fresh reader makes of lines: the last is answered 35 and those before it 32 to 34; of the pieces those in the image are stored, in
-- order; and each byte of the image is the latest of them, or as lent
pub record ReadBack (own : ℕ) (img : List ℕ) (ls : List (List ℕ)) (ps : List Store) : Type 0 where
  pub before : List Answer
  pub accepted : Acceptance before
  pub answers : line_answers (fresh_session own img) ls ≡ before ++ (Ended ∷ [])
  pub stores : stores_of (fresh_session own img) ls ≡ within (length img) ps
  pub image : (j : ℕ) → get_or (read_all (fresh_session own img) ls).image j 0 ≡ latest j (within (length img) ps) (get_or img j 0)
  pub kept : length (read_all (fresh_session own img) ls).image ≡ length img

-- by a reader of V1 or V2, with any good image: the pieces are those of its board's file
unfoldable pub JoinedReadsBack : Type 0
JoinedReadsBack =
    EveryOutput
    (λ a b ls.
    (own : ℕ) (img : List ℕ) → Setup own img → (ps : List Store) × PlainPieces (cond (eqb own 0x9900) a b) ps × ReadBack own img ls ps)

-- ---- "V1 first, 512-aligned, LF endings", "digits are upper case", "one 01 last"

-- the data of records at linear addresses, the latest 04 ruling, whether an image has it or not
unfoldable pub linear_data : ℕ → ℕ → List Item → List Store
linear_data kind upper [] = []
linear_data kind upper (x ∷ xs) =
    cond (eqb x.kind kind) (at (65536 * upper + x.address) x.bytes ∷ []) []
    ++ linear_data kind (cond (eqb x.kind 0x04) (word_of x) upper) xs

-- a section of a board, in its form, of a multiple of 512 bytes, that has a plain file's pieces, in order
pub record SectionOf (board : ℕ) (text : List ℕ) (s : Section) : Type 0 where
  pub named : board_of s ≡ board
  pub form : Form board s
  pub aligned : size_of (section_items s) % 512 ≡ 0
  pub pieces : PlainPieces text (linear_data (data_type_of board) (word_of s.opening) s.body)

-- lines that are a file (by the grammar of whole files) of two sections, V1's, then V2's; each line is its record in upper-case digits, and ends
-- in LF
pub record TwoSections (a b : List ℕ) (ls : List (List ℕ)) : Type 0 where
  pub items : List Item
  pub lines : ls ≡ map line_for items
  pub says : Says ls items
  pub file : File items
  pub v1 : Section
  pub v2 : Section
  pub two : file.sections ≡ v1 ∷ v2 ∷ []
  pub ending : file.ending ≡ item 0x01 0 []
  pub of_v1 : SectionOf 0x9900 a v1
  pub of_v2 : SectionOf 0x9903 b v2

-- so are those of every output
unfoldable pub JoinedIsFile : Type 0
JoinedIsFile = EveryOutput (λ a b ls. TwoSections a b ls)

-- and these leave one output: two lists of lines that are so are the same
unfoldable pub OutputIsOne : Type 0
OutputIsOne = (a b : List ℕ) (ls ms : List (List ℕ)) → TwoSections a b ls → TwoSections a b ms → ls ≡ ms

-- ---- splitting

-- it changes no byte: what pieces leave at a place is what the data leaves there
unfoldable pub CutsChangeNoByte : Type 0
CutsChangeNoByte = (ss ps : List Store) → Cuts ss ps → (j d : ℕ) → latest j ps d ≡ latest j ss d

-- and there is one way to do it
unfoldable pub CutsAreOne : Type 0
CutsAreOne = (ss ps qs : List Store) → Cuts ss ps → Cuts ss qs → ps ≡ qs

-- ---- which files are joined

-- plain files with a data byte each
unfoldable pub JoinedArePlain : Type 0
JoinedArePlain = EveryOutput (λ a b ls. WithData a × WithData b)

-- and where there is such a file that the room holds, it is written: a file has at most 4,194,304 bytes by its grammar
unfoldable pub FittingIsWritten : Type 0
FittingIsWritten =
    (a b out : List ℕ) (ls : List (List ℕ)) → TwoSections a b ls → length (flatten ls) ≤ length out → (join_of a b out).answer ≡ Ok (length (flatten ls))

-- "Refusals are 01's, V1's input whole first": V1's file is none, or it is one and V2's is none, or both are and the output is too long; a
-- file that is none is bad at the line that is named, by the answer
pub data RefusalCase (a b : List ℕ) (r : Refusal) : Type 0 where
  of_v1 : r.board ≡ 0x9900 → BadText a r.line r.answer → (WithData a → ⊥) → RefusalCase a b r
  of_v2 : r.board ≡ 0x9903 → WithData a → BadText b r.line r.answer → (WithData b → ⊥) → RefusalCase a b r
  of_both : r.board ≡ 0 → r.line ≡ 0 → r.answer ≡ FileTooLong → WithData a → WithData b → RefusalCase a b r

-- so is every refusal
unfoldable pub RefusedByBoard : Type 0
RefusedByBoard = (a b out : List ℕ) (r : Refusal) → (join_of a b out).answer ≡ Err r → RefusalCase a b r

-- and these leave one refusal: one board, one line, one answer
unfoldable pub RefusalIsOne : Type 0
RefusalIsOne = (a b : List ℕ) (q r : Refusal) → RefusalCase a b q → RefusalCase a b r → q ≡ r

-- ---- the room

-- "A refusal writes nothing"
unfoldable pub RefusalWritesNothing : Type 0
RefusalWritesNothing = (a b out : List ℕ) (r : Refusal) → (join_of a b out).answer ≡ Err r → (join_of a b out).room ≡ out

-- "room past the output stays"; "Output over 4,194,304 bytes or the lent room is 36"
unfoldable pub PastOutputStays : Type 0
PastOutputStays =
    (a b out : List ℕ) (n : ℕ) → (join_of a b out).answer ≡ Ok n
    → (n ≤ length out) × (n ≤ 4194304) × (length (join_of a b out).room ≡ length out) × (drop n (join_of a b out).room ≡ drop n out)
