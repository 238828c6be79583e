-- What a map of marks means (01, "Sizes": the seen map and the sector map alike). Assumes nothing.
use Rattle.std.specs.Prelude.{ℕ, ◌+◌, ◌-◌, ◌*◌, ◌/◌, ◌%◌, ◌^◌, Bool, cond, List, length, get_or, set, eqb}
use Rattle.memory.specs.Many.{many}
use Rattle.laws.specs.Sets.{Set, one, size}
use Rattle.laws.specs.Tab.{tab}

-- bit i of a byte, "counted from the most significant"
unfoldable pub bit : ℕ → ℕ → Bool
bit b i = eqb (b / 2 ^ (7 - i) % 2) 1

-- the byte with bit i set
unfoldable pub with_bit : ℕ → ℕ → ℕ
with_bit b i = cond (bit b i) b (b + 2 ^ (7 - i))

-- item k is marked: "byte k/8, bit k mod 8"; past the end nothing is
unfoldable pub marked_in : List ℕ → ℕ → Bool
marked_in m k = bit (get_or m (k / 8) 0) (k % 8)

-- the map with item k marked; past the end `set` changes nothing
unfoldable pub with_mark : List ℕ → ℕ → List ℕ
with_mark m k = set m (k / 8) (with_bit (get_or m (k / 8) 0) (k % 8))

-- a map of n bytes with no mark
unfoldable pub unmarked : ℕ → List ℕ
unmarked n = many n 0

-- how many marks are set
unfoldable pub marks : List ℕ → ℕ
marks m = size (length m * 8) (marked_in m)

-- ---- the map of a set

-- the byte of the eight tests c 0 to c 7
unfoldable pub pack : Set → ℕ
pack c =
    one (c 0) * 128
    + one (c 1) * 64
    + one (c 2) * 32
    + one (c 3) * 16
    + one (c 4) * 8
    + one (c 5) * 4
    + one (c 6) * 2
    + one (c 7)

-- byte j of the map of S
unfoldable pub octet : Set → ℕ → ℕ
octet S j = pack (λ i. S (j * 8 + i))

-- the map of n bytes that marks exactly the items of S
unfoldable pub map_of : ℕ → Set → List ℕ
map_of n S = tab n (octet S)
