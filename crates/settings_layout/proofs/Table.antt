-- The settings that are read: their table, and when it has a used entry. Assumes nothing.
use Prim.Native.Nat.{ℕ, ◌+◌, ◌-◌, ◌*◌, ◌<◌}
use mathlib.Core.Path.{◌≡◌, refl, ap, ◌∙◌}
use mathlib.Core.List.{List}
use native.Mathlib.Omega.{arith}
use lib.Dec.{eqb}
use lib.ListN.{length, take, drop}
use borrow.Author.Tests.{eqb-true}
use Rattle.laws.proofs.Tests.{split}
use Rattle.partitions.specs.declared.Entry.{Entry}
use Rattle.partitions.specs.declared.Settings.{Settings}
use Rattle.partitions.specs.Table.{table_of}
use Rattle.partitions.proofs.Tables.{Filled, filled_table}
use Rattle.partitions.specs.Settings.{arch_from as of_flag}
use Rattle.settings_layout.specs.Layout.{is_on, arch_from, entry_from, entry_in, count_from, used_of, settings_of, settings_from}

-- the architecture by whether its byte is not 0
pub arch_on : (x : ℕ) → of_flag (is_on x) ≡ arch_from x
arch_on x = split (eqb x 0) (λ t. rw t) (λ f. rw f)

-- the part of the bytes that the loop lends
pub entry_part : (b : List ℕ) (k : ℕ) {e : Entry} → e ≡ entry_from (take (6 + k * 34 + 34 - (6 + k * 34)) (drop (6 + k * 34) b)) → e ≡ entry_in b k
unfolding entry_in
entry_part b k q =
    let size : 6 + k * 34 + 34 - (6 + k * 34) ≡ 34 = omega arith in
    rw size at q

-- a used entry stands in bytes that are settings
pub used_whole : (b : List ℕ) {n : ℕ} → n ≡ used_of (count_from b) → 0 < n → length b ≡ 550
used_whole b u l =
    split (eqb (length b) 550)
    (λ e. eqb-true (length b) 550 e)
    (λ e. let z : used_of (count_from b) ≡ 0 = rw e refl in absurd (omega arith))

pub settings_read : (b : List ℕ) {s : Settings} {n : ℕ} (t : List Entry) → n ≡ used_of (count_from b) → Filled (entry_in b) n t → s ≡ settings_of b t → s ≡ settings_from b
unfolding settings_from
settings_read b {n = n} t u h e =
    e ∙ ap (settings_of b) (filled_table (entry_in b) n t h ∙ ap (table_of (entry_in b)) u)
