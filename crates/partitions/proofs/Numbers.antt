-- A flag and an architecture as numbers, as std makes them of a `bool`. Assumes nothing.
use Prim.Native.Nat.{◌<◌}
use denote.Enum.Bare.{sameb}
use mathlib.Core.Path.{◌≡◌, refl}
use mathlib.Core.Bool.{Bool, true, false}
use native.Mathlib.Omega.{arith}
use Rattle.std.specs.Int.{from_bool}
use Rattle.laws.specs.Packing.{bit}
use Rattle.partitions.specs.contracts.Arch.{the_type}
use Rattle.partitions.specs.declared.Arch.{Arch}
use Rattle.partitions.specs.declared.Arch.TheVariants.{Arm, RiscV}
use Rattle.partitions.specs.Settings.{arch_number}

pub from_bit : (b : Bool) → from_bool b ≡ bit b
from_bit true = refl
from_bit false = refl

pub from_arch : (a : Arch) → from_bool (sameb the_type a RiscV) ≡ arch_number a
from_arch Arm = refl
from_arch RiscV = refl

pub arch_low : (a : Arch) → arch_number a < 2
arch_low Arm = omega arith
arch_low RiscV = omega arith
