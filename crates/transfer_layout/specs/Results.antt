-- The result of an arrival. Assumes nothing.
use Rattle.std.specs.Prelude.{ℕ, ◌+◌, Bool, cond, leb}

-- the answer's number, and 128 more where a running transfer was discarded
abbrev pub result_of : ℕ → Bool → ℕ
result_of n discarded = cond discarded (n + 128) n

-- answers 14 and more accept the block
abbrev pub is_acceptance : ℕ → Bool
is_acceptance n = leb 14 n
