-- A plain Intel Hex file (02, "One file from two"), by the records that its lines say: which records it has, where its data lies, and
-- how its data is cut. Assumes nothing.
use Rattle.std.specs.Prelude.{ℕ, ◌+◌, ◌*◌, ◌%◌, ◌≤◌, ◌≡◌, cond, ◌&&◌, List, [], ◌∷◌, ◌++◌, leb, eqb, length}
use Rattle.laws.specs.Stores.{Store}
use Rattle.ihex_file.specs.Lines.{lines_of}
use Rattle.uhex_claims.specs.Items.{Item, Says, word_of}

-- ---- its records

-- "plain Intel Hex (types 00 to 05)", the 01 last and only there; "02 carries 2 bytes, 03 and 05 four"; 01: "04 carries 2 bytes, 01 none";
-- row 29: no data "with address field + length over 65,536"
pub data Records : List Item → Type 0 where
  ending_01 : {x : Item} → x.kind ≡ 0x01 → length x.bytes ≡ 0 → Records (x ∷ [])
  data_00 : {x : Item} {xs : List Item} → x.kind ≡ 0x00 → x.address + length x.bytes ≤ 65536 → Records xs → Records (x ∷ xs)
  segment_02 : {x : Item} {xs : List Item} → x.kind ≡ 0x02 → length x.bytes ≡ 2 → Records xs → Records (x ∷ xs)
  start_03 : {x : Item} {xs : List Item} → x.kind ≡ 0x03 → length x.bytes ≡ 4 → Records xs → Records (x ∷ xs)
  linear_04 : {x : Item} {xs : List Item} → x.kind ≡ 0x04 → length x.bytes ≡ 2 → Records xs → Records (x ∷ xs)
  start_05 : {x : Item} {xs : List Item} → x.kind ≡ 0x05 → length x.bytes ≡ 4 → Records xs → Records (x ∷ xs)

-- a text whose lines say such records: "A line ends with its LF or the file"; "Hex file: at most 4,194,304 bytes" (01)
pub record PlainFile (text : List ℕ) (xs : List Item) : Type 0 where
  pub says : Says (lines_of text) xs
  pub records : Records xs
  pub short : length text ≤ 4194304

-- ---- its data

-- bytes from an address on
abbrev pub at : ℕ → List ℕ → Store
at address bytes = record { address = address; bytes = bytes }

-- what a record's address field counts from: "the latest 02 or 04 ruling", an 02 by 16, an 04 by 65,536
abbrev pub base_after : ℕ → Item → ℕ
base_after base x = cond (eqb x.kind 0x02) (16 * word_of x) (cond (eqb x.kind 0x04) (65536 * word_of x) base)

-- a record's data at its linear address; "Non-empty data records", "start records dropped"
abbrev pub data_at : ℕ → Item → List Store
data_at base x = cond (eqb x.kind 0x00 && leb 1 (length x.bytes)) (at (base + x.address) x.bytes ∷ []) []

-- of all records, which "keep their order and bytes"
unfoldable pub data_from : ℕ → List Item → List Store
data_from base [] = []
data_from base (x ∷ xs) = data_at base x ++ data_from (base_after base x) xs

-- a plain file with a data byte: row 30 asks for one
pub record WithData (text : List ℕ) : Type 0 where
  pub items : List Item
  pub file : PlainFile text items
  pub some : 1 ≤ length (data_from 0 items)

-- ---- its pieces

-- "split only where the linear address crosses a multiple of 65,536": the pieces of the bytes d from address a on
pub data Cut : ℕ → List ℕ → List Store → Type 0 where
  uncut : {a : ℕ} {d : List ℕ} → a % 65536 + length d ≤ 65536 → Cut a d (at a d ∷ [])
  crossing : {a : ℕ} {d rest : List ℕ} {ps : List Store} → a % 65536 + length d ≡ 65536 → 1 ≤ length rest → Cut (a + length d) rest ps
      → Cut a (d ++ rest) (at a d ∷ ps)

-- of each of the stores, in order
pub data Cuts : List Store → List Store → Type 0 where
  none : Cuts [] []
  one : {s : Store} {ss ps qs : List Store} → Cut s.address s.bytes ps → Cuts ss qs → Cuts (s ∷ ss) (ps ++ qs)

-- the pieces of a plain file
pub record PlainPieces (text : List ℕ) (ps : List Store) : Type 0 where
  pub items : List Item
  pub file : PlainFile text items
  pub cut : Cuts (data_from 0 items) ps

-- those that lie wholly in an image of n bytes
unfoldable pub within : ℕ → List Store → List Store
within n [] = []
within n (s ∷ ss) = cond (leb (s.address + length s.bytes) n) (s ∷ []) [] ++ within n ss
