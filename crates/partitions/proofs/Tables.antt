-- A table by a rule for its used entries: entry by entry, and as a loop fills it. Assumes nothing.
use Prim.Native.Nat.{ℕ, zero, suc, ◌+◌, ◌<◌, ◌≤◌}
use mathlib.Core.Path.{◌≡◌, refl, sym, ap, ◌∙◌}
use mathlib.Core.Logic.{◌≢◌}
use mathlib.Core.List.{List}
use native.Mathlib.Nat.{le_of_suc-le-suc, not-suc-le-zero}
use native.Mathlib.Omega.{arith}
use lib.Dec.{ltb, eqb}
use lib.ListN.{length, set, replicate, length-set, length-replicate, get_or-replicate}
use lib.Seq.{ext_get_or, get_or-set_same, get_or-set_other}
use borrow.Author.Tests.{le-ltb, lt-ltb, ltb-true, ltb-false, eqb-true, eqb-false}
use Rattle.laws.proofs.Tests.{split}
use Rattle.partitions.specs.declared.Entry.{Entry}
use Rattle.partitions.specs.Settings.{empty_entry, entry_at, blank_entry}
use Rattle.partitions.specs.Table.{row_in, rows_in, table_of}

-- ---- entry by entry

module _ (f : ℕ → Entry) (n : ℕ) where
  rows_length : (k m : ℕ) → length (rows_in f n k m) ≡ m
  unfolding rows_in
  rows_length k zero = refl
  rows_length k (suc m) = ap suc (rows_length (k + 1) m)

  rows_at : (k m j : ℕ) → j < m → entry_at (rows_in f n k m) j ≡ row_in f n (k + j)
  unfolding rows_in
  rows_at k zero j l = absurd (not-suc-le-zero l)
  rows_at k (suc m) zero l = ap (row_in f n) (omega arith)
  rows_at k (suc m) (suc j) l = rows_at (k + 1) m j (le_of_suc-le-suc l) ∙ ap (row_in f n) (omega arith)

  row_used : (k : ℕ) → k < n → row_in f n k ≡ f k
  unfolding row_in
  row_used k l = rw (lt-ltb k n l)

  pub table_length : length (table_of f n) ≡ 16
  table_length = rows_length 0 16

  table_row : (k : ℕ) → k < 16 → entry_at (table_of f n) k ≡ row_in f n k
  table_row k l = rows_at 0 16 k l ∙ ap (row_in f n) (omega arith)

  -- a used entry, and one that is not
  pub table_at : (k : ℕ) → n ≤ 16 → k < n → entry_at (table_of f n) k ≡ f k
  table_at k few l = table_row k (omega arith) ∙ row_used k l

  pub table_past : (k : ℕ) → n ≤ k → k < 16 → entry_at (table_of f n) k ≡ blank_entry
  unfolding row_in
  table_past k past l = table_row k l ∙ rw (le-ltb k n past)

-- rules that agree where the table is used
module _ (f g : ℕ → Entry) (n : ℕ) (h : (k : ℕ) → k < n → f k ≡ g k) where
  rows_agree : (k m : ℕ) → rows_in f n k m ≡ rows_in g n k m
  unfolding rows_in row_in
  rows_agree k zero = refl
  rows_agree k (suc m) =
      split (ltb k n)
      (λ t. rw (t, h k (ltb-true k n t), rows_agree (k + 1) m))
      (λ t. rw (t, rows_agree (k + 1) m))

  pub table_cong : table_of f n ≡ table_of g n
  table_cong = rows_agree 0 16

-- ---- as a loop fills it

-- the first n of 16 entries are filled
abbrev pub Filled : (ℕ → Entry) → ℕ → List Entry → Type 0
Filled f n t = (length t ≡ 16) × ((j : ℕ) → j < 16 → entry_at t j ≡ row_in f n j)

pub filled_table : (f : ℕ → Entry) (n : ℕ) (t : List Entry) → Filled f n t → t ≡ table_of f n
filled_table f n t h =
    ext_get_or empty_entry t (table_of f n) (h.0 ∙ sym (table_length f n))
    (λ j l.
    let m = h.0 in
    let q : j < 16 = omega arith in
    h.1 j q ∙ sym (table_row f n j q))

pub filled_none : (f : ℕ → Entry) {e : Entry} → e ≡ blank_entry → Filled f 0 (replicate 16 e)
unfolding row_in
filled_none f {e} q =
    (length-replicate 16 e, λ j l. rw (get_or-replicate 16 j e empty_entry l, le-ltb j 0 (omega arith)) q)

row_other : (f : ℕ → Entry) (k j : ℕ) → j ≢ k → row_in f (k + 1) j ≡ row_in f k j
unfolding row_in
row_other f k j d =
    split (ltb j k)
    (λ t. let l = ltb-true j k t in rw (t, lt-ltb j (k + 1) (omega arith)))
    (λ t. let l = ltb-false j k t in rw (t, le-ltb j (k + 1) (omega arith)))

pub filled_more : (f : ℕ → Entry) (k : ℕ) (t : List Entry) {e : Entry} → k < 16 → Filled f k t → e ≡ f k → Filled f (k + 1) (set t k e)
filled_more f k t {e} l h q = (
  length-set t k e ∙ h.0,
  λ j m.
      let n = h.0 in
      split (eqb j k)
      (λ x. let y = eqb-true j k x in rw (y, get_or-set_same t k e empty_entry (omega arith), row_used f (k + 1) k (omega arith)) q)
      (λ x. let d = eqb-false j k x in rw (get_or-set_other t k j e empty_entry d, row_other f k j d) (h.1 j m)),
)
