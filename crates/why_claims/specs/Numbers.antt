-- "in rows 3 to 7 and 9 to 11 the number tested and what it is tested against" (02, L6), row by row and condition by condition: both in the transfer's
-- numbers, the arrival's fields and the bytes of the place, and the test itself; of rows 10 and 11 also which of the two is asked first. Proved in proofs/Numbers.antt. Assumes nothing.
use Rattle.std.specs.Prelude.{ℕ, ◌+◌, ◌-◌, ◌*◌, ◌/◌, ◌%◌, ◌<◌, ◌≤◌, ◌≡◌, ◌≢◌, true, false, List, length, Some, None}
use Rattle.memory.specs.Bitmap.{marked_in}
use Rattle.partitions.specs.Settings.{good_settings}
use Rattle.uf2_block.specs.Block.{field_at, has_flag}
use Rattle.partitions.specs.declared.Settings.{Settings}
use Rattle.placement.specs.Place.{place_of, ram_family, place_from}
use Rattle.transfer.specs.declared.Kind.TheVariants.{Flash, MainRam, XipRam}
use Rattle.transfer.specs.declared.Head.{Head}
use Rattle.transfer.specs.declared.Run.{Run}
use Rattle.transfer.specs.declared.State.TheVariants.{Running, Done}
use Rattle.arrival.specs.Arrive.{World}
use Rattle.arrival.specs.Windows.{kind_of, head_of}
use Rattle.why_causes.specs.declared.Bound.TheVariants.{CountUnder, CountOver, RunningOver, DoneUnder, DoneOver}
use Rattle.why_causes.specs.declared.Magic.TheVariants.{First, Second, Last}
use Rattle.why_causes.specs.declared.Numbers.TheVariants.{TotalZero, TotalPast, NumberPast}
use Rattle.why_causes.specs.declared.Address.TheVariants.{Below, Ragged, Past, PastWindow, NoWindow}
use Rattle.why_causes.specs.declared.Length.TheVariants.{Arrival, FlashRagged, FlashUnder, FlashOver, Seen, Sectors, Main, Xip}
use Rattle.why_causes.specs.declared.NotKept.{NotKept}
use Rattle.why_settings.specs.declared.Fault.{Fault}
use Rattle.why_place.specs.declared.Denial.{Denial}
use Rattle.why_causes.specs.declared.Cause.{Cause}
use Rattle.why_causes.specs.declared.Cause.TheVariants.{BadBuffers, BadSettings, BadState, NotBlock, Container, NoFamily, NoPlace, BadPayload, BadNumbers, BadAddress, Finished, Again, Written, Completed, Noted, Kept}
use Rattle.why.specs.Why.{why_of}

-- the bytes of "the place": of the family's in the flash; "in RAM check 10 uses the window"
pub data Room (s : Settings) (w : World) (a : List ℕ) : ℕ → Type 0 where
  in_flash : (start n : ℕ) → kind_of w a ≡ Flash → place_of s (length w.held.flash) (field_at a 28) ≡ Some (place_from start n) → Room s w a n
  in_main : kind_of w a ≡ MainRam → Room s w a 532480
  in_xip : kind_of w a ≡ XipRam → Room s w a 16384

-- the address lies in a window: flash's, or a RAM's, which is none "where the board lacks it" (02, L8)
pub data Windowed (w : World) (x : ℕ) : Type 0 where
  flash_window : 0x10000000 ≤ x → x < 0x12000000 → Windowed w x
  main_window : length w.held.main ≢ 0 → 0x20000000 ≤ x → x < 0x20082000 → Windowed w x
  xip_window : length w.held.xip ≢ 0 → 0x13ffc000 ≤ x → x < 0x14000000 → Windowed w x

-- row 10 is asked: of a comment always, of a data block in a window, since "For an address in no window .. 11 comes before 10"
abbrev pub Counted : World → List ℕ → Type 0
Counted w a = has_flag a 0x1 ≡ false → Windowed w (field_at a 12)

-- and passed, beside n bytes
pub record Numbered (a : List ℕ) (n : ℕ) : Type 0 where
  pub some : 1 ≤ field_at a 24
  pub fits : field_at a 24 * 256 ≤ n
  pub below : field_at a 20 < field_at a 24

-- what a condition tells, the number tested and what it is tested against
pub data Tested (s : Settings) (w : World) (a : List ℕ) : Cause → ℕ → ℕ → Type 0 where
  -- row 3: "Running without 1 <= count < total <= 131,072; Done without 1 <= total <= 131,072"
  count_under : (r : Run) → w.transfer ≡ Running r → r.count < 1 → Tested s w a (BadState CountUnder) r.count 1
  count_over_case : (r : Run) → w.transfer ≡ Running r → r.head.total ≤ r.count → Tested s w a (BadState CountOver) r.count r.head.total
  running_over : (r : Run) → w.transfer ≡ Running r → 131072 < r.head.total → Tested s w a (BadState RunningOver) r.head.total 131072
  done_under : (g : Head) → w.transfer ≡ Done g → g.total < 1 → Tested s w a (BadState DoneUnder) g.total 1
  done_over : (g : Head) → w.transfer ≡ Done g → 131072 < g.total → Tested s w a (BadState DoneOver) g.total 131072
  -- row 4: "a magic number differs"
  first_magic : field_at a 0 ≢ 0x0A324655 → Tested s w a (NotBlock First) (field_at a 0) 0x0A324655
  second_magic : field_at a 4 ≢ 0x9E5D5157 → Tested s w a (NotBlock Second) (field_at a 4) 0x9E5D5157
  last_magic : field_at a 508 ≢ 0x0AB16F30 → Tested s w a (NotBlock Last) (field_at a 508) 0x0AB16F30
  -- rows 5 and 7: "flag 0x1000", "flag 0x2000 clear"
  container : field_at a 8 / 0x1000 % 2 ≡ 1 → Tested s w a Container (field_at a 8) 0x1000
  no_family : field_at a 8 / 0x2000 % 2 ≢ 1 → Tested s w a NoFamily (field_at a 8) 0x2000
  -- row 9: "size isn't 256"
  bad_payload_case : field_at a 16 ≢ 256 → Tested s w a BadPayload (field_at a 16) 256
  -- row 10: "total 0, total x 256 over the place, or number >= total"
  total_zero : Counted w a → field_at a 24 ≡ 0 → Tested s w a (BadNumbers TotalZero) (field_at a 24) 0
  total_past : {n : ℕ} → Counted w a → Room s w a n → n < field_at a 24 * 256 → Tested s w a (BadNumbers TotalPast) (field_at a 24 * 256) n
  number_past : Counted w a → field_at a 24 ≤ field_at a 20 → Tested s w a (BadNumbers NumberPast) (field_at a 20) (field_at a 24)
  -- row 11, in no window: "below the window", or past flash's and in no RAM
  below : field_at a 12 < 0x10000000 → Tested s w a (BadAddress Below) (field_at a 12) 0x10000000
  no_window : 0x12000000 ≤ field_at a 12 → (Windowed w (field_at a 12) → ⊥) → Tested s w a (BadAddress NoWindow) (field_at a 12) 0x12000000
  -- row 11 of flash, once row 10 is passed: "no multiple of 256, or address - 0x10000000 + 256 over the place"
  ragged : {n : ℕ} → field_at a 12 < 0x12000000 → Room s w a n → Numbered a n → field_at a 12 % 256 ≢ 0 → Tested s w a (BadAddress Ragged) (field_at a 12) 256
  past : {n : ℕ} → field_at a 12 < 0x12000000 → Room s w a n → Numbered a n → n < field_at a 12 - 0x10000000 + 256 → Tested s w a (BadAddress Past) (field_at a 12 - 0x10000000 + 256) n
  -- "there 11 is only address + 256 past the window's end" (L8)
  past_main : kind_of w a ≡ MainRam → Numbered a 532480 → 0x20082000 < field_at a 12 + 256 → Tested s w a (BadAddress PastWindow) (field_at a 12 + 256) 0x20082000
  past_xip : kind_of w a ≡ XipRam → Numbered a 16384 → 0x14000000 < field_at a 12 + 256 → Tested s w a (BadAddress PastWindow) (field_at a 12 + 256) 0x14000000
  -- row 1: the lengths of 01's "Sizes", and RAM's two (L8)
  arrival_length : length a ≢ 512 → Tested s w a (BadBuffers Arrival) (length a) 512
  flash_ragged : length w.held.flash % 4096 ≢ 0 → Tested s w a (BadBuffers FlashRagged) (length w.held.flash) 4096
  flash_under : length w.held.flash < 4096 → Tested s w a (BadBuffers FlashUnder) (length w.held.flash) 4096
  flash_over : 33554432 < length w.held.flash → Tested s w a (BadBuffers FlashOver) (length w.held.flash) 33554432
  seen_length : length w.seen ≢ 16384 → Tested s w a (BadBuffers Seen) (length w.seen) 16384
  sectors_length : length w.held.sectors ≢ 1024 → Tested s w a (BadBuffers Sectors) (length w.held.sectors) 1024
  main_length : length w.held.main ≢ 0 → length w.held.main ≢ 532480 → Tested s w a (BadBuffers Main) (length w.held.main) 532480
  xip_length : length w.held.xip ≢ 0 → length w.held.xip ≢ 16384 → Tested s w a (BadBuffers Xip) (length w.held.xip) 16384
  -- row 2: `BadByFields` has what bad settings are
  bad_settings : {x : Fault} {g n : ℕ} → good_settings s (length w.held.flash) ≡ false → Tested s w a (BadSettings x) g n
  -- row 8: `PlaceByFields` has what places are
  no_place : {x : Denial} {g n : ℕ} → kind_of w a ≡ Flash → place_of s (length w.held.flash) (field_at a 28) ≡ None → Tested s w a (NoPlace x) g n
  no_ram_place : {x : Denial} {g n : ℕ} → kind_of w a ≢ Flash → ram_family s (field_at a 28) ≡ false → Tested s w a (NoPlace x) g n
  -- rows 12 and 13: "transfer Done"; "Running, same family and total, number marked", and the same kind
  is_done_case : {g n : ℕ} (h : Head) → w.transfer ≡ Done h → Tested s w a Finished g n
  is_again_case : {g n : ℕ} (c : ℕ) → w.transfer ≡ Running (record { head = head_of w a; count = c }) → marked_in w.seen (field_at a 20) ≡ true → Tested s w a Again g n
  -- from 14 on `CountIsRaised` has the numbers
  of_row_14 : {x : NotKept} {g n : ℕ} → Tested s w a (Written x) g n
  of_row_15 : {g n : ℕ} → Tested s w a Completed g n
  of_row_16 : {g n : ℕ} → Tested s w a Noted g n
  of_row_17 : {g n : ℕ} → Tested s w a Kept g n

unfoldable pub NumbersAreTrue : Type 0
NumbersAreTrue =
    (s : Settings) (w : World) (a : List ℕ) → Tested s w a (why_of s w a).reason.cause (why_of s w a).reason.got (why_of s w a).reason.against
