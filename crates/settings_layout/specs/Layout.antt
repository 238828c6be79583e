-- Settings as bytes, 550 of them: 6, and 16 entries. Every number below is a byte. Assumes nothing.
use Rattle.std.specs.Prelude.{ℕ, ◌+◌, ◌*◌, cond, List, [], ◌∷◌, ◌++◌, leb, eqb, length, take, drop}
use Rattle.laws.specs.Rows.{rows}
use Rattle.partitions.specs.declared.Arch.{Arch}
use Rattle.partitions.specs.declared.Arch.TheVariants.{Arm, RiscV}
use Rattle.partitions.specs.declared.Entry.{Entry}
use Rattle.partitions.specs.declared.Settings.{Settings}
use Rattle.partitions.specs.Settings.{entry_at}
-- "current architecture": 0 Arm, 1 RISC-V
pub use Rattle.partitions.specs.Settings.{arch_number as arch_byte}
use Rattle.partitions.specs.Table.{table_of}
-- entries and transfers as bytes
pub use Rattle.settings_layout.specs.EntryBytes.{byte_at, is_on, users_from, flag_byte, link_tag}
unfoldable pub use Rattle.settings_layout.specs.EntryBytes.{link_from, entry_from, number_bytes, flag_bytes}
pub use Rattle.transfer_layout.specs.Transfers.{no_state, head_from, transfer_from, head_bytes, state_bytes}
unfoldable pub use Rattle.transfer_layout.specs.Transfers.{kind_from, state_of, state_from, transfer_bytes, with_transfer}

-- ---- read

-- "current architecture": 0 Arm, any other byte RISC-V
abbrev pub arch_from : ℕ → Arch
arch_from x = cond (eqb x 0) Arm RiscV

-- the bytes of entry k
abbrev pub entry_bytes : List ℕ → ℕ → List ℕ
entry_bytes b k = take 34 (drop (6 + k * 34) b)

-- entry k
unfoldable pub entry_in : List ℕ → ℕ → Entry
entry_in b k = entry_from (entry_bytes b k)

-- how many entries are used; with a count over 16 the settings are bad already, and none is
abbrev pub used_of : ℕ → ℕ
used_of count = cond (leb count 16) count 0

-- bytes of any other length are no settings: their count is 255, which is bad for every flash length (proofs/Refused.antt)
abbrev pub count_from : List ℕ → ℕ
count_from b = cond (eqb (length b) 550) (byte_at b 5) 255

-- 0 Arm enabled, 1 RISC-V enabled, 2 current architecture (0 Arm, else RISC-V), 3 auto switch, 4 absolute allowed, 5 count; the table
unfoldable pub settings_of : List ℕ → List Entry → Settings
settings_of b table =
    record {
      arm = is_on (byte_at b 0);
      riscv = is_on (byte_at b 1);
      current = arch_from (byte_at b 2);
      auto_switch = is_on (byte_at b 3);
      absolute = is_on (byte_at b 4);
      count = count_from b;
      table = table;
    }

-- the settings that bytes are: every byte string is some, and those of a wrong length are bad; an entry that is not used is blank, whatever its bytes
unfoldable pub settings_from : List ℕ → Settings
settings_from b = settings_of b (table_of (entry_in b) (used_of (count_from b)))

-- ---- written

-- the 34 bytes of entry k
unfoldable pub row_bytes : List Entry → ℕ → List ℕ
row_bytes table k = number_bytes (entry_at table k) ++ flag_bytes (entry_at table k)

-- the 6 bytes before the table
unfoldable pub switch_bytes : Settings → List ℕ
switch_bytes s =
    flag_byte s.arm ∷ flag_byte s.riscv ∷ arch_byte s.current ∷ flag_byte s.auto_switch ∷ flag_byte s.absolute ∷ s.count ∷ []

-- the bytes of settings (proofs/Written.antt: they are read back as the settings)
unfoldable pub settings_bytes : Settings → List ℕ
settings_bytes s = switch_bytes s ++ rows (row_bytes s.table) 16

-- settings written over bytes, where there are 550
unfoldable pub with_settings : List ℕ → Settings → List ℕ
with_settings b s = cond (eqb (length b) 550) (settings_bytes s) b
