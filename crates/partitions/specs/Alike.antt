-- "Settings are compared by switches, current architecture, used entries, used slots and indexes of linked entries" (02, L5). Assumes nothing.
use Rattle.std.specs.Prelude.{ℕ, ◌<◌, ◌≡◌, get_or}
use Rattle.partitions.specs.declared.Entry.{Entry}
use Rattle.partitions.specs.declared.Settings.{Settings}
use Rattle.partitions.specs.Settings.{entry_at, good_settings}

-- two entries are the same but for "don't restart" and for slots that are not used; an entry that is not linked has no index
pub record AlikeEntry (d e : Entry) : Type 0 where
  pub first : d.first ≡ e.first
  pub sectors : d.sectors ≡ e.sectors
  pub link : d.link ≡ e.link
  pub accepts_data : d.«data» ≡ e.«data»
  pub accepts_arm_s : d.arm_s ≡ e.arm_s
  pub accepts_riscv : d.riscv ≡ e.riscv
  pub accepts_arm_ns : d.arm_ns ≡ e.arm_ns
  pub not_bootable_arm : d.not_bootable_arm ≡ e.not_bootable_arm
  pub not_bootable_riscv : d.not_bootable_riscv ≡ e.not_bootable_riscv
  pub user_count : d.user_count ≡ e.user_count
  pub users : (i : ℕ) → i < d.user_count → get_or d.users i 0 ≡ get_or e.users i 0

-- two settings are the same but for "don't restart", for entries that are not used and for slots that are not used
pub record Alike (s t : Settings) : Type 0 where
  pub arm : s.arm ≡ t.arm
  pub riscv : s.riscv ≡ t.riscv
  pub current : s.current ≡ t.current
  pub auto_switch : s.auto_switch ≡ t.auto_switch
  pub absolute : s.absolute ≡ t.absolute
  pub count : s.count ≡ t.count
  pub entries : (k : ℕ) → k < s.count → AlikeEntry (entry_at s.table k) (entry_at t.table k)

-- two settings compare equal
pub record Compared (s t : Settings) : Type 0 where
  pub alike : Alike s t
  pub no_restart : (k : ℕ) → k < s.count → (entry_at s.table k).no_restart ≡ (entry_at t.table k).no_restart

-- "The new field changes no answer", and no more does what is not used: the same settings are good (place and arrival have the other answers)
abbrev pub AlikeGood : Type 0
AlikeGood = (s t : Settings) (len : ℕ) → Alike s t → good_settings s len ≡ good_settings t len
