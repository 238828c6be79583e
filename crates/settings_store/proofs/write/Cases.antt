-- Each case of `write_of` and of `no_restart_in`, from the facts that lead to it. Assumes nothing.
use mathlib.Core.Path.{◌≡◌, refl, sym}
use mathlib.Core.Bool.{Bool, true, false, not, true≢false}
use mathlib.Core.List.{List}
use Rattle.std.specs.Prelude.{Ok, Err}
use Prim.Native.Nat.{ℕ, ◌+◌, ◌*◌, ◌<◌, ◌≤◌}
use lib.ListN.{length}
use borrow.Author.Tests.{lt-ltb, le-ltb, le-leb, lt-leb}
use Rattle.laws.specs.Sets.{any}
use Rattle.laws.specs.Over.{over}
use Rattle.memory.specs.Flash.{flash_length}
use Rattle.partitions.specs.declared.Entry.{Entry}
use Rattle.partitions.specs.declared.Settings.{Settings}
use Rattle.partitions.specs.Settings.{good_settings}
use Rattle.settings_store.specs.declared.write.StoreError.TheVariants.{BadBuffers, BadSettings, BadLength}
use Rattle.settings_store.specs.Written.{no_restart_at, no_restart_in, store_of, write_call, write_of}

-- a test whose denial decides
pub is_off : (a : Bool) {b : Bool} → a ≡ b → not a ≡ true → b ≡ false
is_off true e h = absurd (true≢false (sym h))
is_off false e h = sym e

pub is_on_lem : (a : Bool) {b : Bool} → a ≡ b → not a ≡ false → b ≡ true
is_on_lem true e h = sym e
is_on_lem false e h = absurd (true≢false h)

-- ---- "don't restart" in a table

module _ (table : List Entry) (n : ℕ) where
  pub no_restart_few : n ≤ 16 → no_restart_in table n ≡ any n (no_restart_at table)
  no_restart_few h = rw (le-leb n 16 h) refl

  pub no_restart_many : 16 < n → no_restart_in table n ≡ false
  no_restart_many h = rw (lt-leb n 16 h) refl

-- ---- writing

module _ (s : Settings) (len : ℕ) (out : List ℕ) where
  pub write_1 : flash_length len ≡ false → write_call (Err BadBuffers) out ≡ write_of s len out
  unfolding write_of
  write_1 h = rw h

  module _ (p : flash_length len ≡ true) where
    pub write_2 : good_settings s len ≡ false → write_call (Err BadSettings) out ≡ write_of s len out
    unfolding write_of
    write_2 h = rw (p, h)

    module _ (q : good_settings s len ≡ true) where
      pub write_41 : length out < 2 + 22 * s.count → write_call (Err BadLength) out ≡ write_of s len out
      unfolding write_of
      write_41 h = rw (p, q, lt-ltb (length out) (2 + 22 * s.count) h)

      pub write_good : 2 + 22 * s.count ≤ length out → {b : List ℕ} → b ≡ over out 0 (store_of s) → write_call (Ok tt) b ≡ write_of s len out
      unfolding write_of
      write_good h {b} e = rw (p, q, le-ltb (length out) (2 + 22 * s.count) h, e)
