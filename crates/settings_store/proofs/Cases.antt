-- Each case of `read_of`, from the facts that lead to it. Assumes nothing.
use mathlib.Core.Path.{◌≡◌, refl, sym, ap, ◌∙◌}
use mathlib.Core.Logic.{◌≢◌}
use mathlib.Core.Bool.{Bool, true, false, cond, not, ◌&&◌, ◌||◌, or-true, or-false}
use mathlib.Core.List.{List, [], ◌∷◌}
use Rattle.std.specs.Prelude.{Option, Some, None, Result, Ok, Err}
use Prim.Native.Nat.{ℕ, ◌+◌, ◌*◌, ◌/◌, ◌%◌, ◌<◌, ◌≤◌}
use native.Mathlib.Nat.{div-one}
use native.Mathlib.Omega.{arith}
use lib.Dec.{eqb}
use lib.ListN.{length, get_or}
use borrow.Author.Tests.{lt-ltb, le-ltb, eq-eqb, ne_eqb}
use Rattle.laws.specs.Sets.{any}
use Rattle.memory.specs.Flash.{flash_length}
use Rattle.partitions.specs.declared.Entry.{Entry}
use Rattle.partitions.specs.declared.Settings.{Settings}
use Rattle.partitions.specs.Settings.{good_settings}
use Rattle.partitions.specs.Table.{table_of}
use Rattle.laws.specs.Packing.{total, packed, unpacked, octets, fields_of}
use Rattle.settings_store.specs.declared.write.StoreError.{StoreError}
use Rattle.settings_store.specs.declared.write.StoreError.TheVariants.{BadBuffers, BadSettings, BadVersion, BadLength, BadBits}
use Rattle.settings_store.specs.Store.{no_restart_at, head_widths, head_in, entry_of, settings_of, settings_in, stray_at, strays_in, read_head, read_of}

-- the head's two bytes
pub head_two : (b : List ℕ) → 2 ≤ length b → head_in b ≡ unpacked head_widths (get_or b 0 0 * 256 + get_or b 1 0)
unfolding head_in fields_of packed octets total
head_two [] h = absurd (omega arith)
head_two (x ∷ []) h = absurd (omega arith)
head_two (x ∷ y ∷ b) h = ap (unpacked head_widths) (omega arith)

-- a scan has none exactly where an entry is stray
pub scanned_none : (b : Bool) (t : List Entry) {r : Option (List Entry)} → r ≡ cond b None (Some t) → r ≡ None → b ≡ true
scanned_none true t e h = refl
scanned_none false t e h = cc

pub scanned_some : (b : Bool) (t : List Entry) {x : List Entry} {r : Option (List Entry)} → r ≡ cond b None (Some t) → r ≡ Some x → (b ≡ false) × (x ≡ t)
scanned_some true t e h = cc
scanned_some false t e h = (refl, cc)

-- what is asked besides, where no entry is stray
pub tested : (x : ℕ) (c : Bool) → not (eqb (x / 1 % 4) 0) || false || c ≡ not (eqb (x % 4) 0) || c
tested x c = rw (div-one x, or-false (not (eqb (x % 4) 0)))

module _ (b : List ℕ) (len : ℕ) where
  pub read_1 : flash_length len ≡ false → Err BadBuffers ≡ read_of b len
  unfolding read_of
  read_1 h = rw h

  module _ (p : flash_length len ≡ true) where
    pub read_short : length b < 2 → Err BadLength ≡ read_of b len
    unfolding read_of
    read_short h = rw (p, lt-ltb (length b) 2 h)

    pub read_on : 2 ≤ length b → (x : ℕ) {r : Result Settings StoreError} → head_in b ≡ unpacked head_widths x → r ≡ read_head (unpacked head_widths x) b len → r ≡ read_of b len
    unfolding read_of
    read_on q x {r} e h = h ∙ rw (p, le-ltb (length b) 2 q, e)

-- the head's number x
module _ (b : List ℕ) (len x : ℕ) where
  pub read_40 : not (eqb (x / 4096 % 16) 1 || eqb (x / 4096 % 16) 2) ≡ true → Err BadVersion ≡ read_head (unpacked head_widths x) b len
  unfolding read_head unpacked total
  read_40 h = rw h

  module _ (r : not (eqb (x / 4096 % 16) 1 || eqb (x / 4096 % 16) 2) ≡ false) where
    pub read_many : 16 < x / 128 % 32 → Err BadBits ≡ read_head (unpacked head_widths x) b len
    unfolding read_head unpacked total
    read_many h = rw (r, lt-ltb 16 (x / 128 % 32) h)

    module _ (s : x / 128 % 32 ≤ 16) where
      pub read_41 : (length b ≢ 2 + 22 * (x / 128 % 32)) → Err BadLength ≡ read_head (unpacked head_widths x) b len
      unfolding read_head unpacked total
      read_41 h = rw (r, le-ltb 16 (x / 128 % 32) s, ne_eqb (length b) (2 + 22 * (x / 128 % 32)) h)

      module _ (w : length b ≡ 2 + 22 * (x / 128 % 32)) {table : List Entry} (ht : table ≡ table_of (entry_of b) (x / 128 % 32)) {y v : Bool}
          (k : y ≡ any (x / 128 % 32) (stray_at b (x / 4096 % 16))) (m : v ≡ any (x / 128 % 32) (no_restart_at table)) where
        strays : strays_in (unpacked head_widths x) b ≡ not (eqb (x / 1 % 4) 0) || y || eqb (x / 4096 % 16) 2 && not v
        unfolding strays_in unpacked total
        strays = rw (k, m, ht)

        reach : read_head (unpacked head_widths x) b len
            ≡ cond (strays_in (unpacked head_widths x) b) (Err BadBits)
            (cond (not (good_settings (settings_in (unpacked head_widths x) b) len)) (Err BadSettings) (Ok (settings_in (unpacked head_widths x) b)))
        unfolding read_head unpacked total
        reach = rw (r, le-ltb 16 (x / 128 % 32) s, eq-eqb (length b) (2 + 22 * (x / 128 % 32)) w)

        pub read_42_entry : y ≡ true → Err BadBits ≡ read_head (unpacked head_widths x) b len
        read_42_entry h = sym (reach ∙ rw (strays, h, or-true (not (eqb (x / 1 % 4) 0))))

        pub read_42 : not (eqb (x / 1 % 4) 0) || y || eqb (x / 4096 % 16) 2 && not v ≡ true → Err BadBits ≡ read_head (unpacked head_widths x) b len
        read_42 h = sym (reach ∙ rw (strays, h))

        module _ (u : not (eqb (x / 1 % 4) 0) || y || eqb (x / 4096 % 16) 2 && not v ≡ false) {z : Settings} (hz : z ≡ settings_of (unpacked head_widths x) table) where
          whole : settings_in (unpacked head_widths x) b ≡ z
          unfolding settings_in unpacked total
          whole = sym (hz ∙ rw ht)

          pub read_2 : good_settings z len ≡ false → Err BadSettings ≡ read_head (unpacked head_widths x) b len
          read_2 h = sym (reach ∙ rw (strays, u, whole, h))

          pub read_good : good_settings z len ≡ true → Ok z ≡ read_head (unpacked head_widths x) b len
          read_good h = sym (reach ∙ rw (strays, u, whole, h))
