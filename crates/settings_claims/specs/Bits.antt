-- The packed store by absolute bits (02, L5: "fields most significant bit first"): bit 0 is the most significant of the first byte. Proved in
-- proofs/Bits.antt. Assumes nothing.
use Rattle.std.specs.Prelude.{ℕ, ◌+◌, ◌-◌, ◌*◌, ◌/◌, ◌%◌, ◌^◌, ◌<◌, ◌≡◌, Bool, true, false, cond, ltb, List, [], ◌∷◌, length, get_or, take, drop}
use Rattle.memory.specs.Flash.{flash_length}
use Rattle.partitions.specs.declared.Arch.{Arch}
use Rattle.partitions.specs.declared.Arch.TheVariants.{Arm, RiscV}
use Rattle.partitions.specs.declared.Link.{Link}
use Rattle.partitions.specs.declared.Link.TheVariants.{Unlinked, OwnedBy, BOf}
use Rattle.partitions.specs.declared.Entry.{Entry}
use Rattle.partitions.specs.declared.Settings.{Settings}
use Rattle.partitions.specs.Settings.{empty_entry, good_settings}
use Rattle.settings_store.specs.Store.{store_of}
use Rattle.settings_claims.specs.Claims.{Narrow}

-- ---- bits

-- bytes as one number, the first byte highest
unfoldable pub value_of : List ℕ → ℕ
value_of [] = 0
value_of (c ∷ l) = c * 256 ^ length l + value_of l

-- the w bits of 2 bytes, and of 22, from bit i on
abbrev pub head_bits : List ℕ → ℕ → ℕ → ℕ
head_bits b i w = value_of (take 2 b) / 2 ^ (16 - (i + w)) % 2 ^ w

abbrev pub entry_bits : List ℕ → ℕ → ℕ → ℕ → ℕ
entry_bits b k i w = value_of (take 22 (drop (2 + 22 * k) b)) / 2 ^ (176 - (i + w)) % 2 ^ w

-- a flag is one bit
abbrev pub flag : Bool → ℕ
flag true = 1
flag false = 0

-- "current (1 is RISC-V)", "link kind 2 (none, owned, B), index 4"; "unlinked indexes are zero"
abbrev pub arch_number : Arch → ℕ
arch_number Arm = 0
arch_number RiscV = 1

abbrev pub link_kind : Link → ℕ
link_kind Unlinked = 0
link_kind (OwnedBy k) = 1
link_kind (BOf k) = 2

abbrev pub link_index : Link → ℕ
link_index Unlinked = 0
link_index (OwnedBy k) = k
link_index (BOf k) = k

-- slot i where it is used, else 0
abbrev pub slot_of : Entry → ℕ → ℕ
slot_of e i = cond (ltb i e.user_count) (get_or e.users i 0) 0

-- ---- the layout

-- "first sector 13, sectors 14, link kind 2, index 4, accepts data, arm-s, riscv, arm-ns, not-bootable Arm and RISC-V, user count 3, four families of 32, six
-- zeros. Version 2 makes the first of those six "don't restart""; "Unused slots .. are zero"
pub record EntryLaid (e : Entry) (b : List ℕ) (k : ℕ) : Type 0 where
  pub first : entry_bits b k 0 13 ≡ e.first
  pub sectors : entry_bits b k 13 14 ≡ e.sectors
  pub kind : entry_bits b k 27 2 ≡ link_kind e.link
  pub index : entry_bits b k 29 4 ≡ link_index e.link
  pub accepts_data : entry_bits b k 33 1 ≡ flag e.«data»
  pub accepts_arm_s : entry_bits b k 34 1 ≡ flag e.arm_s
  pub accepts_riscv : entry_bits b k 35 1 ≡ flag e.riscv
  pub accepts_arm_ns : entry_bits b k 36 1 ≡ flag e.arm_ns
  pub shut_arm : entry_bits b k 37 1 ≡ flag e.not_bootable_arm
  pub shut_riscv : entry_bits b k 38 1 ≡ flag e.not_bootable_riscv
  pub users : entry_bits b k 39 3 ≡ e.user_count
  pub families : (entry_bits b k 42 32 ∷ entry_bits b k 74 32 ∷ entry_bits b k 106 32 ∷ entry_bits b k 138 32 ∷ [])
      ≡ (slot_of e 0 ∷ slot_of e 1 ∷ slot_of e 2 ∷ slot_of e 3 ∷ [])
  pub no_restart : entry_bits b k 170 1 ≡ flag e.no_restart
  pub zeros : entry_bits b k 171 5 ≡ 0

-- "Head of 16 bits: version 4, count 5, auto switch, absolute, Arm, RISC-V, current (1 is RISC-V), two zeros."; "version 2 is used exactly if some used entry has it"
pub record Laid (s : Settings) (b : List ℕ) : Type 0 where
  pub long : length b ≡ 2 + 22 * s.count
  pub version_2 : (k : ℕ) → k < s.count → (get_or s.table k empty_entry).no_restart ≡ true → head_bits b 0 4 ≡ 2
  pub version_1 : ((k : ℕ) → k < s.count → (get_or s.table k empty_entry).no_restart ≡ false) → head_bits b 0 4 ≡ 1
  pub count : head_bits b 4 5 ≡ s.count
  pub auto_switch : head_bits b 9 1 ≡ flag s.auto_switch
  pub absolute : head_bits b 10 1 ≡ flag s.absolute
  pub arm : head_bits b 11 1 ≡ flag s.arm
  pub riscv : head_bits b 12 1 ≡ flag s.riscv
  pub current : head_bits b 13 1 ≡ arch_number s.current
  pub zeros : head_bits b 14 2 ≡ 0
  pub entries : (k : ℕ) → k < s.count → EntryLaid (get_or s.table k empty_entry) b k

-- of every store of good settings
unfoldable pub StoreIsLaid : Type 0
StoreIsLaid = (s : Settings) (len : ℕ) → flash_length len ≡ true → good_settings s len ≡ true → Narrow s → Laid s (store_of s)
