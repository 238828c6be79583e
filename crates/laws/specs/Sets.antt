-- Sets of numbers as tests: how many below n a set holds, whether one below n passes a test, and which is the least. Assumes nothing.
use Rattle.std.specs.Prelude.{Bool, true, false, cond, ◌||◌, ℕ, zero, suc, ◌+◌, eqb}

-- the numbers that pass a test
abbrev pub Set : Type 0
Set = ℕ → Bool

-- the empty set
abbrev pub none : Set
none j = false

-- S with k
abbrev pub add : ℕ → Set → Set
add k S j = eqb j k || S j

-- 1 for what is in a set
abbrev pub one : Bool → ℕ
one true = 1
one false = 0

-- how many of the numbers below n are in S
unfoldable pub size : ℕ → Set → ℕ
size zero S = 0
size (suc n) S = one (S n) + size n S

-- a number below n passes the test
unfoldable pub any : ℕ → Set → Bool
any zero P = false
any (suc n) P = any n P || P n

-- the least number below n that passes the test, and n where none does
unfoldable pub least : ℕ → Set → ℕ
least zero P = 0
least (suc n) P = cond (any n P) (least n P) (cond (P n) n (suc n))
