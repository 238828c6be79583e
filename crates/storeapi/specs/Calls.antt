-- What the calls about stores answer and leave. Assumes nothing.
use Rattle.std.specs.Prelude.{ℕ, cond, List, eqb, length, Result, Ok, Err}
use Rattle.partitions.specs.declared.Settings.{Settings}
use Rattle.settings_layout.specs.Layout.{settings_from, with_settings}
use Rattle.settings_store.specs.declared.write.StoreError.{StoreError}
use Rattle.settings_store.specs.Store.{read_of, read_number, WriteCall, write_of, write_number}

-- what is returned, and what the slice that may be written holds
pub record StoreCall : Type 0 where
  pub result : ℕ
  pub written : List ℕ

-- both as one value, which the contracts name
abbrev pub store_call : ℕ → List ℕ → StoreCall
store_call n l = record { result = n; written = l }

-- ---- reading

-- the settings that are read; a refusal leaves the bytes: it "returns no settings"
unfoldable pub kept_settings : List ℕ → Result Settings StoreError → List ℕ
kept_settings l (Ok s) = with_settings l s
kept_settings l (Err e) = l

-- what is told of a reading
unfoldable pub told_of : List ℕ → Result Settings StoreError → StoreCall
told_of l r = store_call (read_number r) (kept_settings l r)

-- 1 too where the settings have not 550 bytes
unfoldable pub store_read_call : List ℕ → ℕ → List ℕ → StoreCall
store_read_call b len l = cond (eqb (length l) 550) (told_of l (read_of b len)) (store_call 1 l)

-- ---- writing

abbrev pub written_call : WriteCall → StoreCall
written_call w = store_call (write_number w) w.output

unfoldable pub store_write_call : List ℕ → ℕ → List ℕ → StoreCall
store_write_call b len out = written_call (write_of (settings_from b) len out)
