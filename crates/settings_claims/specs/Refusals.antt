-- "a wrong one is answer 1, first. Reading, in order: 41 under 2 bytes, 40 version not 1 or 2, 42 count over 16, 41 length not 2 + 22 x count, 42 stray bits, kind 3,
-- user count over 4 or a needless version 2, then answer 2" (02, L5), by bytes and bits. Proved in proofs/Refusals.antt. Assumes nothing.
use Rattle.std.specs.Prelude.{ℕ, ◌+◌, ◌*◌, ◌/◌, ◌%◌, ◌<◌, ◌≤◌, ◌≡◌, ◌⊎◌, ◌≢◌, true, false, List, [], ◌∷◌, map, length, get_or}
use Rattle.memory.specs.Flash.{flash_length}
use Rattle.partitions.specs.declared.Settings.{Settings}
use Rattle.partitions.specs.Settings.{empty_entry, good_settings}
use Rattle.settings_store.specs.declared.write.StoreError.TheVariants.{BadBuffers, BadSettings, BadVersion, BadLength, BadBits}
use Rattle.settings_store.specs.Store.{store_number, read_of, read_number}
use Rattle.settings_claims.specs.Claims.{Bytes}
use Rattle.settings_claims.specs.Bits.{entry_bits, Laid}

-- "version 4, count 5", and the last "two zeros", of 16 bits
abbrev pub version_in : List ℕ → ℕ
version_in b = (get_or b 0 0 * 256 + get_or b 1 0) / 4096 % 16

abbrev pub count_in : List ℕ → ℕ
count_in b = (get_or b 0 0 * 256 + get_or b 1 0) / 128 % 32

abbrev pub zeros_in : List ℕ → ℕ
zeros_in b = (get_or b 0 0 * 256 + get_or b 1 0) % 4

-- a store of two bytes or more whose version is known, for a flash of a right length
pub record Headed (b : List ℕ) (len : ℕ) : Type 0 where
  pub right : flash_length len ≡ true
  pub some : 2 ≤ length b
  pub known : (version_in b ≡ 1) ⊎ (version_in b ≡ 2)

-- a store as long as its count says
pub record Whole (b : List ℕ) (len : ℕ) : Type 0 where
  pub headed : Headed b len
  pub few : count_in b ≤ 16
  pub long : length b ≡ 2 + 22 * count_in b

-- "stray bits, kind 3, user count over 4 or a needless version 2": bits of the head or of entry k, counted from its first
pub data Stray (b : List ℕ) : Type 0 where
  head_zeros : zeros_in b ≢ 0 → Stray b
  kind_3 : (k : ℕ) → k < count_in b → entry_bits b k 27 2 ≡ 3 → Stray b
  -- "unlinked indexes are zero"
  unlinked_index : (k : ℕ) → k < count_in b → entry_bits b k 27 2 ≡ 0 → entry_bits b k 29 4 ≢ 0 → Stray b
  many_users_case : (k : ℕ) → k < count_in b → 4 < entry_bits b k 39 3 → Stray b
  -- "Unused slots .. are zero"
  unused_slot_0 : (k : ℕ) → k < count_in b → entry_bits b k 39 3 ≤ 0 → entry_bits b k 42 32 ≢ 0 → Stray b
  unused_slot_1 : (k : ℕ) → k < count_in b → entry_bits b k 39 3 ≤ 1 → entry_bits b k 74 32 ≢ 0 → Stray b
  unused_slot_2 : (k : ℕ) → k < count_in b → entry_bits b k 39 3 ≤ 2 → entry_bits b k 106 32 ≢ 0 → Stray b
  unused_slot_3 : (k : ℕ) → k < count_in b → entry_bits b k 39 3 ≤ 3 → entry_bits b k 138 32 ≢ 0 → Stray b
  -- "six zeros. Version 2 makes the first of those six "don't restart"", "version 2 is used exactly if some used entry has it"
  sixth_last : (k : ℕ) → k < count_in b → version_in b ≡ 1 → entry_bits b k 170 1 ≢ 0 → Stray b
  last_five : (k : ℕ) → k < count_in b → entry_bits b k 171 5 ≢ 0 → Stray b
  needless_2 : version_in b ≡ 2 → ((k : ℕ) → k < count_in b → entry_bits b k 170 1 ≡ 0) → Stray b

-- the first row that holds, up to the length
pub data Refusal (b : List ℕ) (len : ℕ) : ℕ → Type 0 where
  row_1 : flash_length len ≡ false → Refusal b len 1
  row_41 : flash_length len ≡ true → length b < 2 → Refusal b len 41
  row_40 : flash_length len ≡ true → 2 ≤ length b → version_in b ≢ 1 → version_in b ≢ 2 → Refusal b len 40
  row_42 : Headed b len → 16 < count_in b → Refusal b len 42
  row_41_length : Headed b len → count_in b ≤ 16 → length b ≢ 2 + 22 * count_in b → Refusal b len 41

unfoldable pub ReadRefuses : Type 0
ReadRefuses = (b : List ℕ) (len n : ℕ) → Refusal b len n → read_number (read_of b len) ≡ n

-- the rows after the length; the last is of bytes that are laid as those of bad settings
pub data LateRefusal (b : List ℕ) (len : ℕ) : ℕ → Type 0 where
  row_42_stray : Whole b len → Stray b → LateRefusal b len 42
  row_2 : (s : Settings) → flash_length len ≡ true → Bytes b → s.count ≤ 16 → ((k : ℕ) → k < s.count → (get_or s.table k empty_entry).user_count ≤ 4)
      → Laid s b → good_settings s len ≡ false → LateRefusal b len 2

unfoldable pub ReadRefusesLate : Type 0
ReadRefusesLate = (b : List ℕ) (len n : ℕ) → LateRefusal b len n → read_number (read_of b len) ≡ n

-- the refusals' numbers
unfoldable pub StoreNumbers : Type 0
StoreNumbers = map store_number (BadBuffers ∷ BadSettings ∷ BadVersion ∷ BadLength ∷ BadBits ∷ []) ≡ 1 ∷ 2 ∷ 40 ∷ 41 ∷ 42 ∷ []
