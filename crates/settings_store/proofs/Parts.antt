-- The part of the bytes that a loop lends. Assumes nothing.
use Prim.Native.Nat.{ℕ, ◌+◌, ◌-◌, ◌*◌}
use mathlib.Core.Path.{◌≡◌}
use mathlib.Core.Bool.{Bool}
use mathlib.Core.List.{List}
use native.Mathlib.Omega.{arith}
use lib.ListN.{take, drop}
use Rattle.partitions.specs.declared.Entry.{Entry}
use Rattle.store_entry.specs.EntryBits.{entry_in, stray_in}
use Rattle.settings_store.specs.Store.{entry_of, stray_at}

pub stray_at_lem : (b : List ℕ) (version k : ℕ) {y : Bool} → y ≡ stray_in version (take (2 + 22 * k + 22 - (2 + 22 * k)) (drop (2 + 22 * k) b)) → y ≡ stray_at b version k
unfolding stray_at
stray_at_lem b version k q =
    let size : 2 + 22 * k + 22 - (2 + 22 * k) ≡ 22 = omega arith in
    rw size at q

pub entry_at : (b : List ℕ) (k : ℕ) {e : Entry} → e ≡ entry_in (take (2 + 22 * k + 22 - (2 + 22 * k)) (drop (2 + 22 * k) b)) → e ≡ entry_of b k
unfolding entry_of
entry_at b k q =
    let size : 2 + 22 * k + 22 - (2 + 22 * k) ≡ 22 = omega arith in
    rw size at q
