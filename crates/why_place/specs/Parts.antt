-- The definitions of a place, cut as the code checks them. Assumes nothing.
use Rattle.std.specs.Prelude.{ℕ, ◌<◌, ◌≡◌, Bool, true, false, cond, not, List, eqb, Option, None, Some, Result, Ok, Err}
use Rattle.laws.specs.Sets.{any}
use Rattle.partitions.specs.declared.Entry.{Entry}
use Rattle.partitions.specs.Settings.{family_data, family_arm_s, family_risc_v, entry_at}
use Rattle.placement.specs.declared.passes.PassQuery.{PassQuery}
use Rattle.placement.specs.Place.{pass_takes}
use Rattle.why_place.specs.declared.Denial.{Denial}
use Rattle.why_place.specs.declared.Denial.TheVariants.{ArmOff, RiscvOff, NotWithoutTable}

abbrev pub denied_if : Bool → Denial → Result (Unit {0}) Denial
denied_if b x = cond b (Err x) (Ok tt)

-- without a table, for a family that is neither absolute nor rp2040
unfoldable pub without_access : Bool → Bool → ℕ → Result (Unit {0}) Denial
without_access arm riscv f =
    cond (eqb f family_data) (Ok tt)
    (cond (eqb f family_arm_s) (denied_if (not arm) ArmOff)
    (cond (eqb f family_risc_v) (denied_if (not riscv) RiscvOff)
    (Err NotWithoutTable)))

-- a pass takes entry k
unfoldable pub takes_in : List Entry → PassQuery → ℕ → ℕ → Bool
takes_in table w p k = pass_takes w p (entry_at table k)

-- the first of n entries that a pass takes, or none
abbrev pub FirstTaken : List Entry → PassQuery → ℕ → ℕ → Option ℕ → Type 0
FirstTaken table w p n None = any n (takes_in table w p) ≡ false
FirstTaken table w p n (Some k) = (k < n) × (any k (takes_in table w p) ≡ false) × (takes_in table w p k ≡ true)
