-- The lines of a plain file's data (02, L11). "other address fields are 0000". Assumes nothing.
use Rattle.std.specs.Prelude.{ℕ, ◌/◌, ◌%◌, cond, eqb, length}
use mathlib.Core.List.{List, [], ◌∷◌, flatten}
use Rattle.laws.specs.Stores.{Store}
use Rattle.ihex_record.specs.Types.{data_type, extended_linear}
use Rattle.ihex_record.specs.Write.{record_line}

-- a number's two low bytes, high first
abbrev pub word_bytes : ℕ → List ℕ
word_bytes w = w / 256 % 256 ∷ w % 256 ∷ []

-- the upper half of a piece's address
abbrev pub upper_of : Store → ℕ
upper_of s = s.address / 65536

-- a 04 that holds an upper half
abbrev pub upper_line : ℕ → List ℕ
upper_line u = record_line extended_linear 0 (word_bytes u)

-- before the lines of a piece with the upper half v: "another stands only where that changes"
abbrev pub upper_if : ℕ → ℕ → List (List ℕ) → List (List ℕ)
upper_if u v ls = cond (eqb u v) ls (upper_line v ∷ ls)

-- the pieces, after an 04 that holds u: each a data record at the lower half of its address
unfoldable pub body_lines : ℕ → ℕ → List Store → List (List ℕ)
body_lines kind u [] = []
body_lines kind u (s ∷ ss) =
    upper_if u (upper_of s) (record_line kind (s.address % 65536) s.bytes ∷ body_lines kind (upper_of s) ss)

-- the first piece's upper half
abbrev pub first_upper : List Store → ℕ
first_upper [] = 0
first_upper (s ∷ ss) = upper_of s

-- the pieces, after an 04 that holds the first one's upper half
abbrev pub data_lines : ℕ → List Store → List (List ℕ)
data_lines kind ss = body_lines kind (first_upper ss) ss

-- how many characters they have, whatever their type (proofs/Length.antt)
unfoldable pub data_length : List Store → ℕ
data_length ss = length (flatten (data_lines data_type ss))
