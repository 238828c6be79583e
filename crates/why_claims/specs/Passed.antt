-- What an arrival has passed that is answered n: the conditions of rows 1 to 11 in numbers, each of which does not hold of an arrival that a later row answers
-- (01, "One arrival, checks in this order"; 02, L3, L8). Proved in proofs/Passed.antt. Assumes nothing.
use Rattle.std.specs.Prelude.{ℕ, ◌+◌, ◌-◌, ◌*◌, ◌/◌, ◌%◌, ◌<◌, ◌≤◌, ◌≡◌, ◌≢◌, ◌⊎◌, true, false, List, length}
use Rattle.uf2_block.specs.Block.{field_at, has_flag}
use Rattle.partitions.specs.Settings.{good_settings}
use Rattle.partitions.specs.declared.Settings.{Settings}
use Rattle.transfer.specs.Transfer.{number_of}
use Rattle.transfer.specs.declared.Kind.TheVariants.{Flash, MainRam, XipRam}
use Rattle.transfer.specs.declared.Head.{Head}
use Rattle.transfer.specs.declared.Run.{Run}
use Rattle.transfer.specs.declared.State.{State}
use Rattle.transfer.specs.declared.State.TheVariants.{Idle, Running, Done}
use Rattle.arrival.specs.Arrive.{World, receive_of}
use Rattle.arrival.specs.Windows.{kind_of}
use Rattle.why_claims.specs.Numbers.{Room}

-- row 1: the lengths of 01's "Sizes", and RAM's two
pub record Lengths (w : World) (a : List ℕ) : Type 0 where
  pub arrival : length a ≡ 512
  pub flash_whole : length w.held.flash % 4096 ≡ 0
  pub flash_least : 4096 ≤ length w.held.flash
  pub flash_most : length w.held.flash ≤ 33554432
  pub seen : length w.seen ≡ 16384
  pub sectors : length w.held.sectors ≡ 1024
  pub main : (length w.held.main ≡ 0) ⊎ (length w.held.main ≡ 532480)
  pub xip : (length w.held.xip ≡ 0) ⊎ (length w.held.xip ≡ 16384)

-- row 3: "1 <= count < total <= 131,072", "1 <= total <= 131,072"
pub data Sound : State → Type 0 where
  idle : Sound Idle
  running : {r : Run} → 1 ≤ r.count → r.count < r.head.total → r.head.total ≤ 131072 → Sound (Running r)
  done : {g : Head} → 1 ≤ g.total → g.total ≤ 131072 → Sound (Done g)

-- row 11, of flash and of each RAM
pub record Addressed (s : Settings) (w : World) (a : List ℕ) (size : ℕ) : Type 0 where
  pub flash : kind_of w a ≡ Flash → (0x10000000 ≤ field_at a 12) × (field_at a 12 % 256 ≡ 0) × (field_at a 12 - 0x10000000 + 256 ≤ size)
  pub main : kind_of w a ≡ MainRam → field_at a 12 + 256 ≤ 0x20082000
  pub xip : kind_of w a ≡ XipRam → field_at a 12 + 256 ≤ 0x14000000

pub record Passed (s : Settings) (w : World) (a : List ℕ) (n : ℕ) : Type 0 where
  pub row_1 : 1 < n → Lengths w a
  pub row_2 : 2 < n → good_settings s (length w.held.flash) ≡ true
  pub row_3 : 3 < n → Sound w.transfer
  pub row_4 : 4 < n → (field_at a 0 ≡ 0x0A324655) × (field_at a 4 ≡ 0x9E5D5157) × (field_at a 508 ≡ 0x0AB16F30)
  pub row_5 : 5 < n → field_at a 8 / 0x1000 % 2 ≢ 1
  pub row_7 : 7 < n → field_at a 8 / 0x2000 % 2 ≡ 1
  -- RAM asks the family besides (`RamFamilies` of arrivals)
  pub row_8 : 8 < n → (size : ℕ) × Room s w a size
  pub row_9 : 9 < n → has_flag a 0x1 ≡ false → field_at a 16 ≡ 256
  pub row_10 : 11 < n → (size : ℕ) → Room s w a size → (1 ≤ field_at a 24) × (field_at a 24 * 256 ≤ size) × (field_at a 20 < field_at a 24)
  pub row_11 : 11 < n → has_flag a 0x1 ≡ false → (size : ℕ) → Room s w a size → Addressed s w a size

unfoldable pub RowsArePassed : Type 0
RowsArePassed = (s : Settings) (w : World) (a : List ℕ) → Passed s w a (number_of (receive_of s w a).answer)
