-- What is written is read back, and good settings have one encoding (02, L5). Assumes nothing.
use Rattle.std.specs.Prelude.{ℕ, ◌<◌, ◌^◌, true, false, ◌≡◌, ◌≢◌, ◌↔◌, List, get_or, Ok}
use Rattle.memory.specs.Flash.{flash_length}
use Rattle.partitions.specs.declared.Entry.{Entry}
use Rattle.partitions.specs.declared.Settings.{Settings}
use Rattle.partitions.specs.Settings.{entry_at, good_settings}
use Rattle.partitions.specs.Table.{table_of}
use Rattle.partitions.specs.Alike.{Compared}
use Rattle.store_entry.specs.EntryBits.{slot, neat_entry}
use Rattle.settings_store.specs.Store.{store_of, no_settings, read_of, read_number}

-- ---- what is said of numbers, which code always has

-- every used slot of a used entry is a number of 32 bits
abbrev pub Narrow : Settings → Type 0
Narrow s = (k i : ℕ) → k < s.count → slot (entry_at s.table k) i < 2 ^ 32

-- every element is a byte
abbrev pub Bytes : List ℕ → Type 0
Bytes b = (i : ℕ) → get_or b i 0 < 256

-- ---- settings in their canonical form

unfoldable pub neat_at : List Entry → ℕ → Entry
neat_at table k = neat_entry (entry_at table k)

-- "Unused slots, entries and unlinked indexes are zero"; a link that is none has no index
unfoldable pub neat : Settings → Settings
neat s =
    record {
      table = table_of (neat_at s.table) s.count;
      arm = s.arm;
      riscv = s.riscv;
      current = s.current;
      auto_switch = s.auto_switch;
      absolute = s.absolute;
      count = s.count;
    }

-- ---- the claims

-- a store that is written is read as the settings in their canonical form
abbrev pub WrittenReadsBack : Type 0
WrittenReadsBack =
    (s : Settings) (len : ℕ) → flash_length len ≡ true → good_settings s len ≡ true → Narrow s → read_of (store_of s) len ≡ Ok (neat s)

-- bytes that are read as settings are the encoding of these settings, which are canonical and good
abbrev pub ReadIsTheEncoding : Type 0
ReadIsTheEncoding =
    (b : List ℕ) (len : ℕ) (s : Settings) → Bytes b → read_of b len ≡ Ok s → (store_of s ≡ b) × (neat s ≡ s) × (good_settings s len ≡ true)

-- "so compared, good settings have one encoding": it is the same exactly if they compare equal
abbrev pub OneEncoding : Type 0
OneEncoding =
    (s t : Settings) (len : ℕ) → flash_length len ≡ true → good_settings s len ≡ true → good_settings t len ≡ true → Narrow s → Narrow t
    → (store_of s ≡ store_of t) ↔ Compared s t

-- no other bytes are read as settings that compare equal
abbrev pub NoOtherBytes : Type 0
NoOtherBytes = (b : List ℕ) (len : ℕ) (s t : Settings) → Bytes b → read_of b len ≡ Ok t → Compared t s → b ≡ store_of s

-- "Refusals return no settings": where the number is that of a refusal, none are read
abbrev pub RefusalsHaveNone : Type 0
RefusalsHaveNone = (b : List ℕ) (len : ℕ) (s : Settings) → read_number (read_of b len) ≢ 0 → read_of b len ≢ Ok s

-- settings in which nothing is enabled are bad for every flash
abbrev pub NoSettingsAreBad : Type 0
NoSettingsAreBad = (len : ℕ) → good_settings no_settings len ≡ false
