-- Every check of an arrival in 01's order with 02's (L3, L8, L9), each a reason with the numbers that it tests, and the one that decides (02, L6).
-- Assumes nothing.
use Rattle.std.specs.Prelude.{ℕ, Bool, false, List, [], ◌∷◌, ◌++◌, length, Option}
use Rattle.memory.specs.Bitmap.{marked_in}
use Rattle.uf2_block.specs.Block.{field_at, has_flag, fields_of}
use Rattle.uf2_block.specs.declared.Block.{Block}
use Rattle.partitions.specs.declared.Settings.{Settings}
use Rattle.placement.specs.Place.{place_of}
use Rattle.placement.specs.declared.Place.{Place}
use Rattle.transfer.specs.Transfer.{head_with}
use Rattle.transfer.specs.declared.Kind.{Kind}
use Rattle.transfer.specs.declared.Kind.TheVariants.{Flash, MainRam, XipRam}
use Rattle.transfer.specs.declared.Head.{Head}
use Rattle.transfer.specs.declared.State.{State}
use Rattle.uf2_checks.specs.declared.Lengths.{Lengths}
use Rattle.arrival.specs.Arrive.{World, lengths_of}
use Rattle.why_settings.specs.Faults.{fault_in, faults_of, tested_of}
use Rattle.why_settings.specs.declared.Fault.{Fault}
use Rattle.why_place.specs.Placing.{denies, flash_denials, ram_denials}
use Rattle.why_place.specs.declared.Denial.{Denial}
use Rattle.why_causes.specs.Causes.{reason_with, number_test}
use Rattle.why_causes.specs.Checks.{row_of, or_last, state_row, header_row}
use Rattle.why_causes.specs.Lengths.{lengths_row}
use Rattle.why_causes.specs.declared.Cause.{Cause}
use Rattle.why_causes.specs.declared.Cause.TheVariants.{BadBuffers, BadSettings, BadState, NotBlock, Container, NoFamily, NoPlace, BadPayload, BadNumbers, BadAddress, Finished, Again, Written, Completed, Noted, Kept}
use Rattle.why_causes.specs.declared.Reason.{Reason}
use Rattle.why_checks.specs.Block.{start_at, size_at, room_of, kind_of, body_row, raised_of, fate_row, written_row, is_done, is_again, not_kept}

-- ---- row 2

-- a fault, with the numbers that it compares
abbrev pub fault_reason : Settings → ℕ → Fault → Reason
fault_reason s len x = reason_with (BadSettings x) (tested_of s len x).got (tested_of s len x).against

-- faults one after the other
unfoldable pub fault_row : Settings → ℕ → List Fault → List Reason
fault_row s len [] = []
fault_row s len (x ∷ l) = fault_reason s len x ∷ fault_row s len l

-- row 2, for a flash of len bytes
unfoldable pub settings_row : Settings → ℕ → List Reason
settings_row s len = fault_row s len (faults_of s)

-- ---- rows 8 to 11

-- "the setting or rule that shut the family out"
abbrev pub denial_reason : ℕ → Denial → Reason
denial_reason f x = reason_with (NoPlace x) f 0

-- rules one after the other
unfoldable pub denial_row : ℕ → List Denial → List Reason
denial_row f [] = []
denial_row f (x ∷ l) = denial_reason f x ∷ denial_row f l

-- row 8, by the kind of the block
unfoldable pub place_row : Kind → ℕ → List Reason
place_row Flash f = denial_row f flash_denials
place_row MainRam f = denial_row f ram_denials
place_row XipRam f = denial_row f ram_denials

-- rows 8 to 11, of a block of this kind, where p is its family's place in the flash
unfoldable pub block_row : Option Place → Kind → Lengths → Block → List Reason
block_row p k n b = place_row k b.family ++ body_row (room_of p k) n b

-- ---- all of them

-- the fields of a block, its kind, and what makes it one transfer with others
abbrev pub block_kind : World → List ℕ → Kind
block_kind w a = kind_of (lengths_of w.held) w.transfer (fields_of a)

abbrev pub head_in : World → List ℕ → Head
head_in w a = head_with (block_kind w a) (field_at a 28) (field_at a 24)

-- the place of its family in the flash
abbrev pub place_in : Settings → World → List ℕ → Option Place
place_in s w a = place_of s (length w.held.flash) (field_at a 28)

-- rows 1 to 3
unfoldable pub board_rows : Settings → State → ℕ → Lengths → ℕ → ℕ → List Reason
board_rows s t a n seen sectors = lengths_row a n seen sectors ++ (settings_row s n.flash ++ state_row t)

-- every check, in its order
unfoldable pub checks_of : Settings → World → List ℕ → List Reason
checks_of s w a =
    board_rows s w.transfer (length a) (lengths_of w.held) (length w.seen) (length w.held.sectors)
    ++ (header_row a
    ++ (block_row (place_in s w a) (block_kind w a) (lengths_of w.held) (fields_of a)
    ++ (fate_row w.transfer (head_in w a) (field_at a 20)
    ++ written_row (raised_of w.transfer (head_in w a)) (field_at a 24))))

-- and 17, where all pass
abbrev pub last_of : World → List ℕ → Reason
last_of w a = reason_with Kept (raised_of w.transfer (head_in w a)) (field_at a 24)

-- ---- what each check tests

-- the condition of a check holds, and so it decides, unless an earlier one does: of settings, world and arrival, and in the rows that compare two
-- numbers of the two that the reason names
abbrev pub test_of : Settings → World → List ℕ → Cause → ℕ → ℕ → Bool
test_of s w a (BadBuffers x) g n = number_test (BadBuffers x) g n
test_of s w a (BadSettings x) g n = fault_in s (length w.held.flash) x
test_of s w a (BadState x) g n = number_test (BadState x) g n
test_of s w a (NotBlock x) g n = number_test (NotBlock x) g n
test_of s w a Container g n = number_test Container g n
test_of s w a NoFamily g n = number_test NoFamily g n
test_of s w a (NoPlace x) g n = denies s (field_at a 28) x
test_of s w a BadPayload g n = number_test BadPayload g n
test_of s w a (BadNumbers x) g n = number_test (BadNumbers x) g n
test_of s w a (BadAddress x) g n = number_test (BadAddress x) g n
test_of s w a Finished g n = is_done w.transfer
test_of s w a Again g n = is_again w.transfer (head_in w a) (marked_in w.seen (field_at a 20))
test_of s w a (Written x) g n = not_kept w.held.flash (start_at (place_in s w a)) (size_at (place_in s w a)) (block_kind w a) a x
test_of s w a Completed g n = number_test Completed g n
test_of s w a Noted g n = has_flag a 0x1
test_of s w a Kept g n = false

abbrev pub holds_in : Settings → World → List ℕ → Reason → Bool
holds_in s w a r = test_of s w a r.cause r.got r.against

-- ---- the reason

unfoldable pub reason_of : Settings → World → List ℕ → Reason
reason_of s w a = or_last (last_of w a) (row_of (holds_in s w a) (checks_of s w a))
