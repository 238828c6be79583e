-- The file that is made is a valid one: each of its blocks passes rows 1 to 11 where it can be delivered. Assumes nothing.
use Prim.Native.Nat.{ℕ, ◌+◌, ◌-◌, ◌*◌, ◌/◌, ◌%◌, ◌<◌, ◌≤◌, ◌^◌}
use mathlib.Core.Path.{◌≡◌, refl, sym, ap, ◌∙◌}
use mathlib.Core.Bool.{Bool, true, false, not, cond, ◌&&◌, ◌||◌}
use mathlib.Core.List.{List}
use native.Mathlib.Omega.{arith}
use lib.Dec.{eqb, ltb, leb}
use lib.ListN.{length, take, drop}
use borrow.Author.Tests.{leb-true, ltb-true, eq-eqb, ne_eqb, le-leb, lt-ltb, le-ltb, lt-leb}
use Rattle.std.specs.Prelude.{Some, Ok}
use Rattle.laws.proofs.Tests.{and_left, and_right, both}
use Rattle.memory.specs.Flash.{payload_of, spans}
use Rattle.uf2_block.specs.Block.{field_at, has_flag, fields_of, flagged_of, is_block, header_of}
use Rattle.partitions.specs.declared.Settings.{Settings}
use Rattle.placement.specs.Place.{place_of, place_from}
use Rattle.transfer.specs.Transfer.{good_state}
use Rattle.transfer.specs.declared.Kind.TheVariants.{Flash}
use Rattle.transfer.specs.declared.State.TheVariants.{Idle}
use Rattle.uf2_checks.specs.Screen.{window_of, bad_numbers, bad_address, placed, placed_at, data_found, found, screen_in, screen_of}
use Rattle.uf2_checks.specs.declared.Body.TheVariants.{Page}
use Rattle.arrival.specs.Arrive.{World, lengths_of, right_lengths, after_screening, deed_of, receive_of}
use Rattle.arrival.specs.Windows.{lies}
use Rattle.demand.specs.Demand.{File, ValidFile, is_data, address_of, answer_number}
use Rattle.arrival_claims.proofs.Screening.{Board, lens}
use Rattle.arrival_claims.proofs.DecisionFacts.{board_decides, right_true, step_late}
use Rattle.uf2_make.specs.Uf2file.{page_of, make_of}
use Rattle.uf2_make.specs.Claims.{Reads}
use Rattle.uf2_make.proofs.checks.Checks.{Right, made_right}
use Rattle.uf2_make.proofs.ReadBack.{blocks_read_back}
use Rattle.file_claims.specs.Delivery.{made_file, IsMade, Deliverable}

-- ---- a block with the maker's flags

module _ (b : List ℕ) (magic : is_block b ≡ true) (flags : field_at b 8 ≡ 0x2000) where
  has : (f : ℕ) → has_flag b f ≡ eqb (0x2000 / f % 2) 1
  has f = rw flags

  made_found : header_of b ≡ Ok (fields_of b)
  unfolding header_of flagged_of is_block
  made_found =
      let p = eqb (field_at b 0) 0x0A324655 in
      let q = eqb (field_at b 4) 0x9E5D5157 in
      let r = eqb (field_at b 508) 0x0AB16F30 in
      let pq = and_left (p && q) r magic in
      rw (and_left p q pq, and_right p q pq, and_right (p && q) r magic, has 0x1000, has 0x2000)

-- ---- rows 4 to 11, of a data block in flash's window and its place

pub record Fits (b : List ℕ) (size : ℕ) : Type 0 where
  pub magic : is_block b ≡ true
  pub flags : field_at b 8 ≡ 0x2000
  pub payload : field_at b 16 ≡ 256
  pub low : 0x10000000 ≤ field_at b 12
  pub high : field_at b 12 < 0x12000000
  pub aligned : field_at b 12 % 256 ≡ 0
  pub ends : field_at b 12 - 0x10000000 + 256 ≤ size
  pub below : field_at b 20 < field_at b 24
  pub room : field_at b 24 * 256 ≤ size

module _ (s : Settings) (w : World) (b : List ℕ) (at size : ℕ) (B : Board s w) (long : length b ≡ 512) (place : place_of s (length w.held.flash) (field_at b 28) ≡ Some (place_from at size)) (I : Fits b size) where
  window : window_of (lens w) (field_at b 12) ≡ Some Flash
  unfolding window_of
  window = rw (le-leb 0x10000000 (field_at b 12) I.low, lt-ltb (field_at b 12) 0x12000000 I.high)

  comment : has_flag b 0x1 ≡ false
  comment = has b I.magic I.flags 0x1

  numbers : bad_numbers size (fields_of b) ≡ false
  unfolding fields_of
  numbers =
      rw (
        ne_eqb (field_at b 24) 0 (λ e. absurd (omega (arith, e, I.below))),
        le-ltb size (field_at b 24 * 256) I.room,
        lt-leb (field_at b 24) (field_at b 20) I.below,
      )

  address : bad_address Flash size (fields_of b) ≡ false
  unfolding fields_of
  address =
      rw (
        le-ltb (field_at b 12) 0x10000000 I.low,
        eq-eqb (field_at b 12 % 256) 0 I.aligned,
        le-ltb size (field_at b 12 - 0x10000000 + 256) I.ends,
      )

  passed : screen_of s (lens w) w.transfer b ≡ Ok (placed_at Flash (Page (at + (field_at b 12 - 0x10000000))) (fields_of b))
  unfolding screen_of screen_in found data_found placed fields_of
  passed = rw (made_found b I.magic I.flags, comment, window, place, I.payload, numbers, address)

  pub made_passes : 12 ≤ answer_number s w b
  unfolding receive_of after_screening
  made_passes =
      rw (board_decides s w b B long, passed)
      (step_late w (payload_of b) (placed_at Flash (Page (at + (field_at b 12 - 0x10000000))) (fields_of b)) _ w.transfer _)
