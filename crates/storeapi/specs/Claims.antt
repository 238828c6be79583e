-- What one call about stores reads of what another wrote. Assumes nothing.
use Rattle.std.specs.Prelude.{ℕ, ◌≡◌, List, length, Ok}
use Rattle.partitions.specs.declared.Settings.{Settings}
use Rattle.settings_layout.specs.Layout.{settings_from}
use Rattle.settings_store.specs.Store.{read_of}
use Rattle.settings_claims.specs.Claims.{Bytes}
use Rattle.storeapi.specs.Calls.{store_call, store_read_call, store_write_call}

-- a store of which settings s are read
pub record Reads (b : List ℕ) (len : ℕ) (s : Settings) : Type 0 where
  pub bytes : Bytes b
  pub reading : read_of b len ≡ Ok s

-- the settings that uf2_store_read leaves are, for every call that is handed them, those of the store
abbrev pub SettingsAreRead : Type 0
SettingsAreRead =
    (b : List ℕ) (len : ℕ) (s : Settings) (l : List ℕ) → Reads b len s → length l ≡ 550
    → ((store_read_call b len l).result ≡ 0) × (settings_from (store_read_call b len l).written ≡ s)

-- and uf2_store_write makes the same store of them
abbrev pub ReadAndWritten : Type 0
ReadAndWritten =
    (b : List ℕ) (len : ℕ) (s : Settings) (l out : List ℕ) → Reads b len s → length l ≡ 550 → length out ≡ length b
    → store_write_call (store_read_call b len l).written len out ≡ store_call 0 b
