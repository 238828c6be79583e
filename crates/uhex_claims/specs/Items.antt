-- What lines say, as numbers: each record's type, address field and data, and how long its line is. Assumes nothing.
use Rattle.std.specs.Prelude.{ℕ, ◌+◌, ◌*◌, ◌≡◌, List, [], ◌∷◌, ◌++◌, length, get_or, take, Ok}
use Rattle.ihex_record.specs.Record.{read_of}
use Rattle.ihex_record.specs.Write.{record_text}
use Rattle.ihex_record.specs.declared.Record.{Record}

-- a record with its data, and the bytes of its line "as handed, ending included"
pub record Item : Type 0 where
  pub kind : ℕ
  pub address : ℕ
  pub bytes : List ℕ
  pub size : ℕ

-- of a line that says the record rec
abbrev pub item_of : List ℕ → Record → Item
item_of l rec =
    record { kind = rec.kind; address = rec.address; bytes = take rec.len (read_of l).«data»; size = length l }

-- each line passes rows 20 to 25, and the items are what the lines say
pub data Says : List (List ℕ) → List Item → Type 0 where
  none : Says [] []
  line : {l : List ℕ} {ls : List (List ℕ)} {xs : List Item} (rec : Record) → (read_of l).parsed ≡ Ok rec → Says ls xs
      → Says (l ∷ ls) (item_of l rec ∷ xs)

-- the bytes of all the lines
unfoldable pub size_of : List Item → ℕ
size_of [] = 0
size_of (x ∷ xs) = x.size + size_of xs

-- an item's first two data bytes, high first
abbrev pub word_of : Item → ℕ
word_of x = 256 * get_or x.bytes 0 0 + get_or x.bytes 1 0

-- a record whose line ends in LF: 11 characters, two for each data byte, and the LF
abbrev pub item : ℕ → ℕ → List ℕ → Item
item kind address d = record { kind = kind; address = address; bytes = d; size = 12 + 2 * length d }

-- and that line
abbrev pub line_for : Item → List ℕ
line_for x = record_text x.kind x.address x.bytes ++ (10 ∷ [])
