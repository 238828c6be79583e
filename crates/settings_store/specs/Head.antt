-- The head of the packed store of settings (02, L5). Assumes nothing.
use Rattle.std.specs.Prelude.{ℕ, Bool, cond, List, [], ◌∷◌, drop}
use Rattle.laws.specs.Sets.{any}
use Rattle.partitions.specs.declared.Entry.{Entry}
use Rattle.partitions.specs.declared.Settings.{Settings}
use Rattle.partitions.specs.Settings.{entry_at}
-- "current (1 is RISC-V)"
pub use Rattle.partitions.specs.Settings.{arch_number as arch_bit}
use Rattle.laws.specs.Packing.{bit}

-- entry k has "don't restart"
unfoldable pub no_restart_at : List Entry → ℕ → Bool
no_restart_at table k = (entry_at table k).no_restart

-- "version 2 is used exactly if some used entry has it"
unfoldable pub version_of : Settings → ℕ
version_of s = cond (any s.count (no_restart_at s.table)) 2 1

-- "Head of 16 bits: version 4, count 5, auto switch, absolute, Arm, RISC-V, current (1 is RISC-V), two zeros."
abbrev pub head_widths : List ℕ
head_widths = 4 ∷ 5 ∷ 1 ∷ 1 ∷ 1 ∷ 1 ∷ 1 ∷ 2 ∷ []

unfoldable pub head_fields : Settings → List ℕ
head_fields s =
    version_of s ∷ s.count ∷ bit s.auto_switch ∷ bit s.absolute ∷ bit s.arm ∷ bit s.riscv ∷ arch_bit s.current ∷ 0 ∷ []

-- the version by whether a used entry has "don't restart", and the fields with this version
abbrev pub version_by : Bool → ℕ
version_by noRestart = cond noRestart 2 1

abbrev pub head_fields_by : Bool → Settings → List ℕ
head_fields_by noRestart s = version_by noRestart ∷ drop 1 (head_fields s)
