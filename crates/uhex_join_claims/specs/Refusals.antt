-- Which line of a plain file is refused, and why (02, "One file from two"): "at the first bad line 31, 36, 20 to 26 (type, length, no 01 at the
-- end) or 29; then 30 for no data byte". Assumes nothing.
use Rattle.std.specs.Prelude.{ℕ, ◌+◌, ◌≤◌, ◌<◌, ◌≡◌, ◌≢◌, List, [], ◌∷◌, ◌++◌, length, Ok}
use Rattle.ihex_record.specs.Record.{read_of}
use Rattle.ihex_record.specs.declared.Record.{Record}
use Rattle.uhex_grammar.specs.Answers.{refusal_of}
use Rattle.uhex_grammar.specs.declared.Answer.{Answer}
use Rattle.uhex_grammar.specs.declared.Answer.TheVariants.{OutOfPlace, Crosses, MissingBoard, AfterEnd, FileTooLong}
use Rattle.ihex_file.specs.Lines.{lines_of}
use Rattle.uhex_claims.specs.Items.{Item, Says, size_of}
use Rattle.uhex_join_claims.specs.PlainFile.{Records, PlainFile, data_from}

-- the types of plain Intel Hex, and how many data bytes each has
pub data PlainType : ℕ → ℕ → Type 0 where
  type_00 : {n : ℕ} → PlainType 0x00 n
  type_01 : PlainType 0x01 0
  type_02 : PlainType 0x02 2
  type_03 : PlainType 0x03 4
  type_04 : PlainType 0x04 2
  type_05 : PlainType 0x05 4

-- records that are good so far, with no 01 among them
pub data Begun : List Item → Type 0 where
  nothing : Begun []
  more : {x : Item} {xs : List Item} → PlainType x.kind (length x.bytes) → x.kind ≢ 0x01 → (x.kind ≡ 0x00 → x.address + length x.bytes ≤ 65536)
      → Begun xs → Begun (x ∷ xs)

-- a line is bad, where those before it have `size` bytes: by the first row that it fails
pub data BadLine (size : ℕ) (l : List ℕ) : Answer → Type 0 where
  row_36 : 4194304 < size + length l → BadLine size l FileTooLong
  rows_20_to_25 : size + length l ≤ 4194304 → ((rec : Record) → (read_of l).parsed ≢ Ok rec) → BadLine size l (refusal_of (read_of l).parsed)
  row_26 : size + length l ≤ 4194304 → (rec : Record) → (read_of l).parsed ≡ Ok rec → (PlainType rec.kind rec.len → ⊥) → BadLine size l OutOfPlace
  row_29 : size + length l ≤ 4194304 → (rec : Record) → (read_of l).parsed ≡ Ok rec → rec.kind ≡ 0x00 → 65536 < rec.address + rec.len
      → BadLine size l Crosses

-- the first bad one of some lines, by its index from 0; past the last one the number of lines. The lines before it have at most 4,194,304 bytes:
-- row 36 would have been first
pub data BadLines (ls : List (List ℕ)) : ℕ → Answer → Type 0 where
  bad_line : {x : Answer} (before : List (List ℕ)) (l : List ℕ) (rest : List (List ℕ)) (xs : List Item) → ls ≡ before ++ (l ∷ rest) → Says before xs → Begun xs
      → size_of xs ≤ 4194304 → BadLine (size_of xs) l x → BadLines ls (length before) x
  after_the_01 : (before : List (List ℕ)) (l : List ℕ) (rest : List (List ℕ)) (xs : List Item) → ls ≡ before ++ (l ∷ rest) → Says before xs → Records xs
      → size_of xs ≤ 4194304 → BadLines ls (length before) AfterEnd
  no_01 : (xs : List Item) → Says ls xs → Begun xs → size_of xs ≤ 4194304 → BadLines ls (length ls) OutOfPlace

-- of a text
pub data BadText (text : List ℕ) : ℕ → Answer → Type 0 where
  lines : {k : ℕ} {x : Answer} → BadLines (lines_of text) k x → BadText text k x
  no_data : (xs : List Item) → PlainFile text xs → data_from 0 xs ≡ [] → BadText text (length (lines_of text)) MissingBoard
