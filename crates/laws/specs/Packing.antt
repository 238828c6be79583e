-- Fields of given widths, packed "most significant bit first" (02, L5): the first field holds the highest bits of one number, and n bytes are
-- that number as n fields of 8 bits. Assumes nothing.
use Rattle.std.specs.Prelude.{ℕ, zero, suc, ◌+◌, ◌*◌, ◌/◌, ◌%◌, ◌^◌, ◌<◌, Bool, true, false, List, [], ◌∷◌, eqb}

-- the bits of fields of the widths ws
unfoldable pub total : List ℕ → ℕ
total [] = 0
total (w ∷ ws) = w + total ws

-- the number of the fields vs, of the widths ws
unfoldable pub packed : List ℕ → List ℕ → ℕ
packed [] vs = 0
packed (w ∷ ws) [] = 0
packed (w ∷ ws) (v ∷ vs) = v * 2 ^ total ws + packed ws vs

-- the fields of a number
unfoldable pub unpacked : List ℕ → ℕ → List ℕ
unpacked [] n = []
unpacked (w ∷ ws) n = n / 2 ^ total ws % 2 ^ w ∷ unpacked ws n

-- the widths of n bytes
unfoldable pub octets : ℕ → List ℕ
octets zero = []
octets (suc n) = 8 ∷ octets n

-- fields of the widths ws as n bytes
unfoldable pub bytes_of : List ℕ → ℕ → List ℕ → List ℕ
bytes_of ws n vs = unpacked (octets n) (packed ws vs)

-- and back
unfoldable pub fields_of : List ℕ → ℕ → List ℕ → List ℕ
fields_of ws n bs = unpacked ws (packed (octets n) bs)

-- each field fits its width
pub data Fit : List ℕ → List ℕ → Type 0 where
  none : Fit [] []
  one : {w v : ℕ} {ws vs : List ℕ} → v < 2 ^ w → Fit ws vs → Fit (w ∷ ws) (v ∷ vs)

-- a flag as a field of one bit
abbrev pub bit : Bool → ℕ
bit true = 1
bit false = 0

abbrev pub on : ℕ → Bool
on n = eqb n 1
