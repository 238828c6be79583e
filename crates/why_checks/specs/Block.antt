-- Rows 9 to 17 of a block, each check with the numbers that it tests, and what the checks from 12 on ask of the transfer and the block (02, L6).
-- Assumes nothing.
use Rattle.std.specs.Prelude.{ℕ, ◌+◌, ◌-◌, ◌%◌, Bool, ◌&&◌, not, cond, List, [], ◌∷◌, leb, eqb, Option, Some, None}
use Rattle.uf2_block.specs.Block.{field_at, has_flag}
use Rattle.uf2_block.specs.Region.{region_of}
use Rattle.uf2_block.specs.declared.Block.{Block}
use Rattle.uf2_block.specs.declared.Region.{Region}
use Rattle.uf2_block.specs.Regions.{stands_in}
use Rattle.placement.specs.declared.Place.{Place}
use Rattle.transfer.specs.Transfer.{same_kind}
use Rattle.transfer.specs.declared.Kind.{Kind}
use Rattle.transfer.specs.declared.Kind.TheVariants.{Flash, MainRam, XipRam}
use Rattle.transfer.specs.declared.Head.{Head}
use Rattle.transfer.specs.declared.State.{State}
use Rattle.uf2_checks.specs.Screen.{extent_of, window_of, window_kind, note_kind}
use Rattle.uf2_checks.specs.declared.Lengths.{Lengths}
use Rattle.why_causes.specs.Causes.{reason_with}
use Rattle.why_causes.specs.Numbers.{numbers_row}
use Rattle.why_causes.specs.declared.NotKept.{NotKept}
use Rattle.why_causes.specs.declared.NotKept.TheVariants.{NoRegion, InRam, Ragged, Empty, OutsidePlace, NotAround, OtherDigest}
use Rattle.why_causes.specs.declared.Cause.TheVariants.{Finished, Again, Written, Completed, Noted}
use Rattle.why_causes.specs.declared.Reason.{Reason}
-- rows 9 to 11 of a data block, and how a transfer stands beside a block
unfoldable pub use Rattle.why_causes.specs.Pages.{address_in, page_row}
unfoldable pub use Rattle.why_causes.specs.Progress.{raised_of}
pub use Rattle.why_causes.specs.Progress.{is_done, is_again, runs_other}

-- ---- rows 9 to 11

-- where a place starts, and its bytes; where there is none row 8 decides, and nothing asks for them
abbrev pub start_at : Option Place → ℕ
start_at None = 0
start_at (Some p) = p.start

abbrev pub size_at : Option Place → ℕ
size_at None = 0
size_at (Some p) = p.len

-- the bytes of the place, or "in RAM check 10 uses the window" (02, L8)
abbrev pub room_of : Option Place → Kind → ℕ
room_of p Flash = size_at p
room_of p MainRam = extent_of MainRam
room_of p XipRam = extent_of XipRam

-- the kind of a block: a comment's as 02 (L8) says, a data block's by its window, and "For an address in no window check 8 is flash's"
unfoldable pub kind_of : Lengths → State → Block → Kind
kind_of n t b = cond b.comment (note_kind n t b) (window_kind (window_of n b.address))

-- rows 9 to 11; a comment "skips 9 and 11" (02, L3)
unfoldable pub body_row : ℕ → Lengths → Block → List Reason
body_row size n b = cond b.comment (numbers_row b.total b.number size) (page_row (window_of n b.address) size b)

-- ---- rows 12 to 17

-- rows 12 and 13, of a block with this number; then 15 and, of a comment, 16
unfoldable pub fate_row : State → Head → ℕ → List Reason
fate_row t g number =
    reason_with Finished number g.total
    ∷ reason_with Again number g.total
    ∷ reason_with Completed (raised_of t g) g.total
    ∷ reason_with Noted (raised_of t g) g.total
    ∷ []

-- row 14: what keeps a block from being kept (02, L9): "Flag 0x4000", "For a flash data block", "if the region is whole sectors, not empty, within the
-- place and around the block, and flash there has that digest"
unfoldable pub written_row : ℕ → ℕ → List Reason
written_row raised total =
    reason_with (Written NoRegion) raised total
    ∷ reason_with (Written InRam) raised total
    ∷ reason_with (Written Ragged) raised total
    ∷ reason_with (Written Empty) raised total
    ∷ reason_with (Written OutsidePlace) raised total
    ∷ reason_with (Written NotAround) raised total
    ∷ reason_with (Written OtherDigest) raised total
    ∷ []

-- ---- what the checks from 12 on ask

-- a condition of L9 on region g is not met, of a block at this address, in a place of `size` bytes that starts at `start` in the flash
abbrev pub ragged : Region → Bool
ragged g = not (eqb (g.start % 4096) 0 && eqb (g.len % 4096) 0)

abbrev pub within : ℕ → Region → Bool
within size g = leb 0x10000000 g.start && leb (g.start - 0x10000000 + g.len) size

abbrev pub around : ℕ → Region → Bool
around address g = leb g.start address && leb (address + 256) (g.start + g.len)

-- why a page of this kind is not kept
abbrev pub not_kept : List ℕ → ℕ → ℕ → Kind → List ℕ → NotKept → Bool
not_kept flash start size k a NoRegion = not (has_flag a 0x4000)
not_kept flash start size k a InRam = not (same_kind k Flash)
not_kept flash start size k a Ragged = ragged (region_of a)
not_kept flash start size k a Empty = eqb (region_of a).len 0
not_kept flash start size k a OutsidePlace = not (within size (region_of a))
not_kept flash start size k a NotAround = not (around (field_at a 12) (region_of a))
not_kept flash start size k a OtherDigest = not (stands_in flash start (region_of a))
