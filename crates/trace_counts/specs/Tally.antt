-- Records counted by the byte that they begin with (02, L14): a tally, as the code counts. Assumes nothing.
use Rattle.std.specs.Prelude.{ℕ, zero, suc, ◌+◌, ◌*◌, ◌/◌, ◌%◌, cond, List, nat_lt, slice_index, slice_set}

-- ---- a tally
-- one count raised, in 64 bits
unfoldable pub raised : List ℕ → ℕ → ℕ → List ℕ
raised l k x = slice_set l k ((slice_index l k + x) % 18446744073709551616)

-- one record more: at the number that it says, and at 32 where it says "discarded"
unfoldable pub tallied : List ℕ → ℕ → List ℕ
tallied l b = raised (raised l (b / 8) 1) 32 (b / 4 % 2)

-- the byte of record k of a trace
abbrev pub recorded_at : List ℕ → ℕ → ℕ
recorded_at t k = slice_index t (513 * k)

-- the first n records of a trace
unfoldable pub tally_to : List ℕ → List ℕ → ℕ → List ℕ
tally_to l t zero = l
tally_to l t (suc n) = tallied (tally_to l t n) (recorded_at t n)

-- ---- a tally added

-- the answer that has its count at a place
abbrev pub number_at : ℕ → ℕ
number_at k = cond (nat_lt k 5) (k + 1) (k + 2)

-- so many more, in 32 bits
abbrev pub plus : ℕ → ℕ → ℕ
plus a b = (a + b) % 4294967296

abbrev pub added_at : List ℕ → List ℕ → ℕ → ℕ
added_at c l k = plus (slice_index c k) (slice_index l (number_at k))

-- at the first k places, and else as they were
unfoldable pub added_counts : List ℕ → List ℕ → ℕ → List ℕ
added_counts c l zero = c
added_counts c l (suc k) = slice_set (added_counts c l k) k (added_at c l k)
