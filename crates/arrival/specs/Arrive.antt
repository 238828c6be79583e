-- One arrival (01, "One arrival, checks in this order"): what decides, and what is done. Assumes nothing.
use Rattle.std.specs.Prelude.{ℕ, ◌/◌, Bool, false, ◌&&◌, ◌||◌, not, cond, List, eqb, length, Option, Some, None, Ok, Err}
use Rattle.memory.specs.Bitmap.{marked_in, with_mark, unmarked}
use Rattle.memory.specs.Flash.{flash_length, erase_at, payload_of, store_at}
use Rattle.uf2_block.specs.Block.{field_at, has_flag}
use Rattle.uf2_block.specs.Region.{region_of}
use Rattle.uf2_block.specs.Regions.{good_region, stands_in}
use Rattle.partitions.specs.Settings.{good_settings}
use Rattle.partitions.specs.declared.Settings.{Settings}
use Rattle.placement.specs.Place.{place_of}
use Rattle.placement.specs.declared.Place.{Place}
use Rattle.transfer.specs.Transfer.{same_kind, number_of, good_state, step_of, Step}
use Rattle.transfer.specs.declared.Kind.{Kind}
use Rattle.transfer.specs.declared.Kind.TheVariants.{Flash, MainRam, XipRam}
use Rattle.transfer.specs.declared.State.{State}
use Rattle.transfer.specs.declared.Deed.{Deed}
use Rattle.transfer.specs.declared.Deed.TheVariants.{Stores, Notes, Keeps}
use Rattle.transfer.specs.declared.Accepted.{Accepted}
use Rattle.transfer.specs.declared.Answer.{Answer}
use Rattle.transfer.specs.declared.Answer.TheVariants.{BadBuffers, BadSettings, BadState}
use Rattle.uf2_checks.specs.Screen.{extent_of, screen_of, Screening}
use Rattle.uf2_checks.specs.declared.Lengths.{Lengths}
use Rattle.uf2_checks.specs.declared.Body.{Body}
use Rattle.uf2_checks.specs.declared.Body.TheVariants.{Page, Note}
use Rattle.uf2_checks.specs.declared.PlacedBlock.{PlacedBlock}

-- what a stored page changes: the flash and the sector map, or a buffer of RAM (02, L8)
pub record Held : Type 0 where
  pub flash : List ℕ
  pub sectors : List ℕ
  pub main : List ℕ
  pub xip : List ℕ

-- the buffers that a caller lends
pub record Lent : Type 0 where
  pub flash : List ℕ
  pub seen : List ℕ
  pub sectors : List ℕ
  pub main : List ℕ
  pub xip : List ℕ

-- what one arrival is handed and hands back: the transfer and the lent buffers
pub record World : Type 0 where
  pub transfer : State
  pub seen : List ℕ
  pub held : Held

-- the buffers of it
abbrev pub lent_of : World → Lent
lent_of w =
    record {
      flash = w.held.flash;
      seen = w.seen;
      sectors = w.held.sectors;
      main = w.held.main;
      xip = w.held.xip;
    }

-- the buffer of a kind
abbrev pub buffer_of : Kind → Held → List ℕ
buffer_of Flash h = h.flash
buffer_of MainRam h = h.main
buffer_of XipRam h = h.xip

-- the lengths of the three
abbrev pub lengths_of : Held → Lengths
lengths_of h = record { flash = length h.flash; main = length h.main; xip = length h.xip }

-- what an arrival leaves, with "a number, the answer, and a yes/no "discarded"" (01's term: discarded)
pub record Outcome : Type 0 where
  pub world : World
  pub answer : Answer
  pub discarded : Bool

-- the number of its answer
abbrev pub outcome_number : Outcome → ℕ
outcome_number o = number_of o.answer

-- ---- what decides: settings, lengths, transfer, seen map and arrival, and of flash one yes or no (02, L9); no byte of RAM, and no sector map

-- what an arrival comes to, before anything is written
pub data Decision : Type 0 where
  stays : Answer → Decision  -- answers 1 to 13: nothing changes
  accepts : PlacedBlock → Deed → Accepted → Decision  -- answers 14 to 17

-- "its own lent buffer of exactly that length, or empty .. other lengths are answer 1" (02, L8)
abbrev pub ram_length : Kind → ℕ → Bool
ram_length k n = eqb n 0 || eqb n (extent_of k)

-- row 1 is passed: the lengths of arrival, flash, seen map and sector map, then of main RAM and XIP RAM
unfoldable pub right_lengths : ℕ → Lengths → ℕ → ℕ → Bool
right_lengths a n m k =
    eqb a 512 && flash_length n.flash && eqb m 16384 && eqb k 1024 && ram_length MainRam n.main && ram_length XipRam n.xip

-- what an arrival would store in a place of the flash stands there: flag 0x4000, and "the region is whole sectors, not empty, within the place and
-- around the block, and flash there has that digest" (02, L9)
unfoldable pub stands_at : List ℕ → Option Place → List ℕ → Bool
stands_at flash None a = false
stands_at flash (Some p) a = has_flag a 0x4000 && good_region p.len (field_at a 12) (region_of a) && stands_in flash p.start (region_of a)

-- in the place of its family
abbrev pub standing : Settings → List ℕ → List ℕ → Bool
standing s flash a = stands_at flash (place_of s (length flash) (field_at a 28)) a

-- what a page does once it is accepted, where it is kept or not, and what a comment does
abbrev pub body_deed : Bool → Body → Deed
body_deed kept (Page at) = cond kept Keeps Stores
body_deed kept Note = Notes

-- what a block does once it is accepted: "For a flash data block" that stands, "store nothing" (02, L9)
abbrev pub deed_of : Bool → PlacedBlock → Deed
deed_of kept p = body_deed (same_kind p.head.kind Flash && kept) p.body

-- a block that passed the screening changes nothing, by 12 or 13, or is accepted
abbrev pub stepped : PlacedBlock → Deed → Step → Decision
stepped p d (Err x) = stays x.answer
stepped p d (Ok t) = accepts p d t

-- rows 12 to 15 (and 16, 17), of what the screening gives
unfoldable pub after_screening : State → List ℕ → Bool → Screening → Decision
after_screening t seen kept (Err x) = stays x
after_screening t seen kept (Ok p) =
    stepped p (deed_of kept p) (step_of t p.head (marked_in seen p.number) (deed_of kept p))

-- every row, for buffers of lengths n and a sector map of k bytes, where what the arrival would store in the flash stands there or not
unfoldable pub decide : Settings → Lengths → ℕ → State → List ℕ → Bool → List ℕ → Decision
decide s n k t seen kept a =
    cond (not (right_lengths (length a) n (length seen) k)) (stays BadBuffers)
    (cond (not (good_settings s n.flash)) (stays BadSettings)
    (cond (not (good_state t)) (stays BadState)
    (after_screening t seen kept (screen_of s n t a))))

-- what an arrival comes to in a world: of flash its length and whether the arrival stands in it are asked, of RAM and sector map their lengths
abbrev pub decided : Settings → World → List ℕ → Decision
decided s w a =
    decide s (lengths_of w.held) (length w.held.sectors) w.transfer w.seen (standing s w.held.flash a) a

-- ---- what is done

-- "both maps are first set to zero", where the block begins a transfer
unfoldable pub cleared_if : Bool → List ℕ → List ℕ
cleared_if clears m = cond clears (unmarked (length m)) m

-- of the sector map; "Flash keeps what the discarded transfer wrote.", and so does RAM
unfoldable pub wiped_if : Bool → Held → Held
wiped_if clears h = record { flash = h.flash; sectors = cleared_if clears h.sectors; main = h.main; xip = h.xip }

-- "If the storage sector isn't marked, all its 4,096 bytes become 0xFF"
unfoldable pub prepared_at : ℕ → Held → List ℕ
prepared_at q h = cond (marked_in h.sectors q) h.flash (erase_at h.flash q)

-- "and it is marked. The payload is stored"; in RAM "No erase, no sector mark: only the 256 bytes change." (02, L8)
unfoldable pub paged_at : Kind → ℕ → List ℕ → Held → Held
paged_at Flash at payload h =
    record {
      flash = store_at (prepared_at (at / 4096) h) at payload;
      sectors = with_mark h.sectors (at / 4096);
      main = h.main;
      xip = h.xip;
    }
paged_at MainRam at payload h = record { flash = h.flash; sectors = h.sectors; main = store_at h.main at payload; xip = h.xip }
paged_at XipRam at payload h = record { flash = h.flash; sectors = h.sectors; main = h.main; xip = store_at h.xip at payload }

-- the storage address of a page; a comment has none, and nothing asks for its
abbrev pub at_of : Body → ℕ
at_of (Page at) = at
at_of Note = 0

-- a page is stored in the buffer of its kind; a comment "sets no flash byte or sector mark" (02, L3), and what stands is not rewritten (02, L9)
abbrev pub done_to : Deed → Kind → ℕ → List ℕ → Held → Held
done_to Stores k at payload h = paged_at k at payload h
done_to Notes k at payload h = h
done_to Keeps k at payload h = h

-- "the number marked, the count raised", of a block that is accepted
unfoldable pub accept_of : World → List ℕ → PlacedBlock → Deed → Accepted → World
accept_of w payload p d t =
    record {
      transfer = t.transfer.state;
      seen = with_mark (cleared_if t.clears w.seen) p.number;
      held = done_to d p.head.kind (at_of p.body) payload (wiped_if t.clears w.held);
    }

-- "Answers 1 to 13 change nothing, "discarded" is no."
abbrev pub unchanged : World → Answer → Outcome
unchanged w x = record { world = w; answer = x; discarded = false }

-- "Answers 1 to 13 change nothing"; from 14 on the block is accepted
unfoldable pub done : World → List ℕ → Decision → Outcome
done w payload (stays x) = unchanged w x
done w payload (accepts p d t) = record { world = accept_of w payload p d t; answer = t.answer; discarded = t.discarded }

-- one arrival
unfoldable pub receive_of : Settings → World → List ℕ → Outcome
receive_of s w a = done w (payload_of a) (decided s w a)

-- ---- a look (02, L7): it "changes nothing and says what would happen"

-- what it says
pub record Forecast : Type 0 where
  pub answer : Answer
  pub discarded : Bool

-- both as one value
abbrev pub forecast : Answer → Bool → Forecast
forecast x d = record { answer = x; discarded = d }

-- the number of its answer
abbrev pub forecast_number : Forecast → ℕ
forecast_number o = number_of o.answer

-- what a decision would come to
abbrev pub forecast_of : Decision → Forecast
forecast_of (stays x) = forecast x false
forecast_of (accepts p d t) = forecast t.answer t.discarded

-- a look at one arrival
unfoldable pub look_of : Settings → World → List ℕ → Forecast
look_of s w a = forecast_of (decided s w a)
