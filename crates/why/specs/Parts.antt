-- The rows as the code asks them. Assumes nothing.
use Rattle.std.specs.Prelude.{ℕ, List, length, Option, None, Some, Result, Ok, Err}
use Rattle.uf2_block.specs.declared.Block.{Block}
use Rattle.partitions.specs.declared.Settings.{Settings}
use Rattle.placement.specs.declared.Place.{Place}
use Rattle.transfer.specs.declared.Kind.{Kind}
use Rattle.transfer.specs.declared.Kind.TheVariants.{Flash, MainRam, XipRam}
use Rattle.transfer.specs.declared.State.{State}
use Rattle.uf2_checks.specs.declared.Lengths.{Lengths}
use Rattle.why_settings.specs.Faults.{first_fault}
use Rattle.why_place.specs.Placing.{flash_access, ram_access}
use Rattle.why_causes.specs.Checks.{by_numbers, row_of, or_next, state_row, header_row}
use Rattle.why_causes.specs.Lengths.{flash_row, lengths_row}
use Rattle.why_checks.specs.Block.{room_of, body_row}
use Rattle.why.specs.Checklist.{fault_reason, denial_reason}
use Rattle.why_settings.specs.declared.Fault.{Fault}
use Rattle.why_place.specs.declared.Denial.{Denial}
use Rattle.why_causes.specs.declared.Reason.{Reason}

-- row 2, by the first fault
abbrev pub finding_row : Settings → ℕ → Option Fault → Result (Unit {0}) Reason
finding_row s len None = Ok tt
finding_row s len (Some x) = Err (fault_reason s len x)

-- row 8, by what shuts the family out
abbrev pub access_row : ℕ → Result (Unit {0}) Denial → Result (Unit {0}) Reason
access_row f (Ok u) = Ok tt
access_row f (Err x) = Err (denial_reason f x)

abbrev pub access_in : Settings → Kind → ℕ → Result (Unit {0}) Denial
access_in s Flash f = flash_access s f
access_in s MainRam f = ram_access s f
access_in s XipRam f = ram_access s f

-- rows 1 to 3, then 4 to 7
unfoldable pub board_part : Settings → State → ℕ → Lengths → ℕ → ℕ → Result (Unit {0}) Reason
board_part s t a n seen sectors =
    or_next (row_of by_numbers (lengths_row a n seen sectors))
    (or_next (finding_row s n.flash (first_fault s n.flash))
    (row_of by_numbers (state_row t)))

unfoldable pub early_part : Settings → State → List ℕ → Lengths → ℕ → ℕ → Result (Unit {0}) Reason
early_part s t a n seen sectors = or_next (board_part s t (length a) n seen sectors) (row_of by_numbers (header_row a))

-- rows 8 to 11
unfoldable pub block_part : Settings → Option Place → Kind → Lengths → Block → Result (Unit {0}) Reason
block_part s p k n b = or_next (access_row b.family (access_in s k b.family)) (row_of by_numbers (body_row (room_of p k) n b))

-- a place asked for alone: rows 1 and 2
unfoldable pub place_part : Settings → ℕ → Result (Unit {0}) Reason
place_part s len = or_next (row_of by_numbers (flash_row len)) (finding_row s len (first_fault s len))
