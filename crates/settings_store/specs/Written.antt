-- The packed store of settings (02, L5), written. Assumes nothing.
use Rattle.std.specs.Prelude.{ℕ, ◌+◌, ◌*◌, Bool, ◌&&◌, cond, not, List, ◌++◌, length, ltb, leb, Result, Ok, Err}
use Rattle.laws.specs.Sets.{any}
use Rattle.laws.specs.Over.{over}
use Rattle.laws.specs.Rows.{rows}
use Rattle.memory.specs.Flash.{flash_length}
use Rattle.partitions.specs.declared.Entry.{Entry}
use Rattle.partitions.specs.declared.Settings.{Settings}
use Rattle.partitions.specs.Settings.{entry_at, good_settings}
use Rattle.laws.specs.Packing.{bytes_of}
use Rattle.store_entry.specs.EntryBits.{packed_entry}
use Rattle.settings_store.specs.declared.write.StoreError.{StoreError}
use Rattle.settings_store.specs.declared.write.StoreError.TheVariants.{BadBuffers, BadSettings, BadVersion, BadLength, BadBits}
-- the head
pub use Rattle.settings_store.specs.Head.{head_widths, arch_bit}
unfoldable pub use Rattle.settings_store.specs.Head.{no_restart_at, version_of, head_fields}

-- ---- the store

-- one of the first n entries of a table of 16 has "don't restart"
abbrev pub no_restart_in : List Entry → ℕ → Bool
no_restart_in table n = leb n 16 && any n (no_restart_at table)

-- the bytes of entry k
unfoldable pub row_at : List Entry → ℕ → List ℕ
row_at table k = packed_entry (entry_at table k)

-- the head, and then the used entries
unfoldable pub store_of : Settings → List ℕ
store_of s = bytes_of head_widths 2 (head_fields s) ++ rows (row_at s.table) s.count

-- the numbers of the refusals
abbrev pub store_number : StoreError → ℕ
store_number BadBuffers = 1
store_number BadSettings = 2
store_number BadVersion = 40
store_number BadLength = 41
store_number BadBits = 42

-- ---- a call that writes

-- what is answered, and what the output holds
pub record WriteCall : Type 0 where
  pub answer : Result (Unit {0}) StoreError
  pub output : List ℕ

abbrev pub write_call : Result (Unit {0}) StoreError → List ℕ → WriteCall
write_call x l = record { answer = x; output = l }

-- the number of an answer; settings that are written have 0
abbrev pub answer_number : Result (Unit {0}) StoreError → ℕ
answer_number (Ok u) = 0
answer_number (Err e) = store_number e

abbrev pub write_number : WriteCall → ℕ
write_number w = answer_number w.answer

-- "Writing: 2, then 41 for too short a buffer, nothing written; bytes past the store stay."
unfoldable pub write_of : Settings → ℕ → List ℕ → WriteCall
write_of s len out =
    cond (not (flash_length len)) (write_call (Err BadBuffers) out)
    (cond (not (good_settings s len)) (write_call (Err BadSettings) out)
    (cond (ltb (length out) (2 + 22 * s.count)) (write_call (Err BadLength) out)
    (write_call (Ok tt) (over out 0 (store_of s)))))
