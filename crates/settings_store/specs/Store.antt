-- The packed store of settings (02, L5), read. Assumes nothing.
use Rattle.std.specs.Prelude.{ℕ, ◌+◌, ◌*◌, Bool, false, ◌&&◌, ◌||◌, cond, not, List, length, get_or, take, drop, replicate, ltb, eqb, Result, Ok, Err}
use Rattle.laws.specs.Sets.{any}
use Rattle.memory.specs.Flash.{flash_length}
use Rattle.partitions.specs.declared.Arch.TheVariants.{Arm}
use Rattle.partitions.specs.declared.Entry.{Entry}
use Rattle.partitions.specs.declared.Settings.{Settings}
use Rattle.partitions.specs.Settings.{blank_entry, good_settings}
pub use Rattle.partitions.specs.Settings.{arch_from}
use Rattle.partitions.specs.Table.{table_of}
use Rattle.laws.specs.Packing.{fields_of, on}
use Rattle.store_entry.specs.EntryBits.{entry_in, stray_in}
use Rattle.settings_store.specs.declared.write.StoreError.{StoreError}
use Rattle.settings_store.specs.declared.write.StoreError.TheVariants.{BadBuffers, BadSettings, BadVersion, BadLength, BadBits}
-- the store as it is written
pub use Rattle.settings_store.specs.Written.{head_widths, arch_bit, store_number, WriteCall, write_call, answer_number, write_number}
unfoldable pub use Rattle.settings_store.specs.Written.{no_restart_at, version_of, head_fields, row_at, store_of, write_of}

-- the head's fields, and the bytes of entry k
unfoldable pub head_in : List ℕ → List ℕ
head_in b = fields_of head_widths 2 (take 2 b)

abbrev pub part_in : List ℕ → ℕ → List ℕ
part_in b k = take 22 (drop (2 + 22 * k) b)

-- entry k
unfoldable pub entry_of : List ℕ → ℕ → Entry
entry_of b k = entry_in (part_in b k)

-- the settings of a head's fields and a table
abbrev pub settings_of : List ℕ → List Entry → Settings
settings_of h table =
    record {
      table = table;
      arm = on (get_or h 4 0);
      riscv = on (get_or h 5 0);
      current = arch_from (on (get_or h 6 0));
      auto_switch = on (get_or h 2 0);
      absolute = on (get_or h 3 0);
      count = get_or h 1 0;
    }

-- "Unused .. entries .. are zero, also in settings read": `table_of` has them blank
unfoldable pub settings_in : List ℕ → List ℕ → Settings
settings_in h b = settings_of h (table_of (entry_of b) (get_or h 1 0))

unfoldable pub stray_at : List ℕ → ℕ → ℕ → Bool
stray_at b version k = stray_in version (part_in b k)

-- "42 stray bits, kind 3, user count over 4 or a needless version 2", of the head h
unfoldable pub strays_in : List ℕ → List ℕ → Bool
strays_in h b =
    not (eqb (get_or h 7 0) 0)
    || any (get_or h 1 0) (stray_at b (get_or h 0 0))
    || eqb (get_or h 0 0) 2 && not (any (get_or h 1 0) (no_restart_at (table_of (entry_of b) (get_or h 1 0))))

-- settings in which nothing is enabled, which are bad for every flash
abbrev pub no_settings : Settings
no_settings =
    record {
      table = replicate 16 blank_entry;
      arm = false;
      riscv = false;
      current = Arm;
      auto_switch = false;
      absolute = false;
      count = 0;
    }

-- the checks that the head h comes to
unfoldable pub read_head : List ℕ → List ℕ → ℕ → Result Settings StoreError
read_head h b len =
    cond (not (eqb (get_or h 0 0) 1 || eqb (get_or h 0 0) 2)) (Err BadVersion)
    (cond (ltb 16 (get_or h 1 0)) (Err BadBits)
    (cond (not (eqb (length b) (2 + 22 * get_or h 1 0))) (Err BadLength)
    (cond (strays_in h b) (Err BadBits)
    (cond (not (good_settings (settings_in h b) len)) (Err BadSettings)
    (Ok (settings_in h b))))))

-- "a wrong [flash length] is answer 1, first. Reading, in order: 41 under 2 bytes, 40 version not 1 or 2, 42 count over 16, 41 length not 2 +
-- 22 x count, 42 stray bits .. , then answer 2"
unfoldable pub read_of : List ℕ → ℕ → Result Settings StoreError
read_of b len =
    cond (not (flash_length len)) (Err BadBuffers)
    (cond (ltb (length b) 2) (Err BadLength)
    (read_head (head_in b) b len))

-- the number of what is read; settings that are read have 0
abbrev pub read_number : Result Settings StoreError → ℕ
read_number (Ok s) = 0
read_number (Err e) = store_number e
