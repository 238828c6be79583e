-- The characters of one file made from two (02, L11: "LF endings", "digits are upper case"; 002): each line by its record's numbers and sixteen digits of
-- its own, and the sum. Proved in proofs/Characters.antt. Assumes nothing.
use Rattle.std.specs.Prelude.{ℕ, ◌+◌, ◌/◌, ◌%◌, ◌<◌, ◌≡◌, List, [], ◌∷◌, ◌++◌, length, get_or}
use Rattle.uhex_claims.specs.Items.{Item}
use Rattle.uhex_join_claims.specs.Claims.{EveryOutput, TwoSections}

-- "0123456789ABCDEF"
abbrev pub digits : List ℕ
digits = 48 ∷ 49 ∷ 50 ∷ 51 ∷ 52 ∷ 53 ∷ 54 ∷ 55 ∷ 56 ∷ 57 ∷ 65 ∷ 66 ∷ 67 ∷ 68 ∷ 69 ∷ 70 ∷ []

-- two a byte, high first
unfoldable pub pairs : List ℕ → List ℕ
pairs [] = []
pairs (b ∷ l) = get_or digits (b / 16) 0 ∷ get_or digits (b % 16) 0 ∷ pairs l

unfoldable pub sum_of : List ℕ → ℕ
sum_of [] = 0
sum_of (b ∷ l) = b + sum_of l

-- length, address (high first), type, data
abbrev pub bytes_in : Item → List ℕ
bytes_in x = length x.bytes ∷ x.address / 256 ∷ x.address % 256 ∷ x.kind ∷ x.bytes

-- a record's line: the colon, those bytes, the one that makes the sum of all a multiple of 256, and LF
pub record LineOf (x : Item) (l : List ℕ) : Type 0 where
  pub check : ℕ
  pub byte : check < 256
  pub sums : (sum_of (bytes_in x) + check) % 256 ≡ 0
  pub text : l ≡ (58 ∷ pairs (bytes_in x ++ (check ∷ []))) ++ (10 ∷ [])

-- line by line
pub data Lines : List Item → List (List ℕ) → Type 0 where
  no_line : Lines [] []
  next_line : {x : Item} {l : List ℕ} {xs : List Item} {ls : List (List ℕ)} → LineOf x l → Lines xs ls → Lines (x ∷ xs) (l ∷ ls)

-- of every output, and its records
unfoldable pub JoinedCharacters : Type 0
JoinedCharacters = EveryOutput (λ a b ls. (t : TwoSections a b ls) → Lines t.items ls)
