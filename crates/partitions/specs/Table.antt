-- A table of 16 entries, by a rule for its used ones. Assumes nothing.
use Rattle.std.specs.Prelude.{ℕ, zero, suc, ◌+◌, cond, List, [], ◌∷◌, ltb}
use Rattle.partitions.specs.declared.Entry.{Entry}
use Rattle.partitions.specs.Settings.{blank_entry}

-- entry k where the first n are those of f, and the others blank
unfoldable pub row_in : (ℕ → Entry) → ℕ → ℕ → Entry
row_in f n k = cond (ltb k n) (f k) blank_entry

-- m such entries, from entry k on
unfoldable pub rows_in : (ℕ → Entry) → ℕ → ℕ → ℕ → List Entry
rows_in f n k zero = []
rows_in f n k (suc m) = row_in f n k ∷ rows_in f n (k + 1) m

-- the table
abbrev pub table_of : (ℕ → Entry) → ℕ → List Entry
table_of f n = rows_in f n 0 16
