-- The version of the head. Assumes nothing.
use Prim.Native.Nat.{ℕ, ◌+◌}
use mathlib.Core.Path.{◌≡◌, refl, ◌∙◌}
use mathlib.Core.Bool.{Bool, true, false}
use Rattle.laws.specs.Sets.{any}
use Rattle.partitions.specs.declared.Settings.{Settings}
use Rattle.laws.specs.Packing.{packed, bit}
use Rattle.settings_store.specs.Head.{no_restart_at, version_of, version_by, head_widths, head_fields, head_fields_by}

-- the version, as the code has it
pub version_by_lem : (b : Bool) → version_by b ≡ 1 + bit b
version_by_lem true = refl
version_by_lem false = refl

-- the head, where the code says truly whether a used entry has "don't restart"
pub head_is : (s : Settings) {b : Bool} {x : ℕ} → x ≡ packed head_widths (head_fields_by b s) → b ≡ any s.count (no_restart_at s.table) → x ≡ packed head_widths (head_fields s)
unfolding head_fields version_of
head_is s h e = h ∙ rw e refl
