-- The passes over the table: what one asks of an entry (01, "Settings and the place of a family"). Assumes nothing.
use Rattle.std.specs.Prelude.{ℕ, Bool, true, ◌&&◌, cond, not, leb, eqb}
use Rattle.partitions.specs.Settings.{family_arm_s, family_risc_v, is_a, is_unowned, accepts, enabled}
use Rattle.partitions.specs.declared.Settings.{Settings}
use Rattle.partitions.specs.declared.Entry.{Entry}
use Rattle.partitions.specs.declared.Arch.{Arch}
use Rattle.partitions.specs.declared.Arch.TheVariants.{Arm, RiscV}
use Rattle.placement.specs.declared.passes.PassQuery.{PassQuery}

-- "the other architecture"
abbrev pub other_arch : Arch → Arch
other_arch Arm = RiscV
other_arch RiscV = Arm

-- the family of an architecture's image
abbrev pub image_of : Arch → ℕ
image_of Arm = family_arm_s
image_of RiscV = family_risc_v

-- the entry is marked not bootable for the architecture
abbrev pub is_marked : Entry → Arch → Bool
is_marked e Arm = e.not_bootable_arm
is_marked e RiscV = e.not_bootable_riscv

-- "unowned, not marked not-bootable for it"
abbrev pub is_bootable : Entry → Arch → Bool
is_bootable e a = is_unowned e && not (is_marked e a)

-- "only if the family is the current architecture's image"
abbrev pub for_current : Settings → ℕ → Bool
for_current s f = eqb f (image_of s.current)

-- "only if auto switch is on, the other architecture is enabled and the family is its image"
abbrev pub for_other : Settings → ℕ → Bool
for_other s f = s.auto_switch && enabled s (other_arch s.current) && eqb f (image_of (other_arch s.current))

-- what the passes have to know of the settings
unfoldable pub pass_query_of : Settings → ℕ → PassQuery
pass_query_of s f =
    record { family = f; current = s.current; for_current = for_current s f; for_other = for_other s f }

-- what a pass asks of an A entry that accepts the family; 01's passes 1 to 4 are counted from 0
unfoldable pub pass_allows : PassQuery → ℕ → Entry → Bool
pass_allows w pass e =
    cond (eqb pass 0) (w.for_current && is_bootable e w.current)
    (cond (eqb pass 1) (w.for_other && is_bootable e (other_arch w.current))
    (cond (eqb pass 2) (is_unowned e) true))

-- "each looks only at A entries that accept the family"
unfoldable pub pass_takes : PassQuery → ℕ → Entry → Bool
pass_takes w pass e = is_a e && accepts e w.family && pass_allows w pass e

-- how many entries are looked at: as many as are used, of the 16 that there are
abbrev pub used_count : ℕ → ℕ
used_count n = cond (leb n 16) n 16
