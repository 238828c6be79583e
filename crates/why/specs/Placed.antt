-- Why a family has a place in the flash, or none: "For a place it names the pass and the entry, or the whole-flash rule." (02, L6) Assumes nothing.
use Rattle.std.specs.Prelude.{ℕ, Bool, List, ◌++◌, Result, Ok, Err}
use Rattle.partitions.specs.declared.Settings.{Settings}
use Rattle.transfer.specs.Transfer.{number_of}
use Rattle.why_settings.specs.Faults.{fault_in}
use Rattle.why_place.specs.Placing.{denies, flash_denials, granted_spot}
use Rattle.why_place.specs.declared.Origin.{Origin}
use Rattle.why_causes.specs.Causes.{answer_of, number_test}
use Rattle.why_causes.specs.Checks.{row_of}
use Rattle.why_causes.specs.Lengths.{flash_row}
use Rattle.why_causes.specs.declared.Cause.{Cause}
use Rattle.why_causes.specs.declared.Cause.TheVariants.{BadBuffers, BadSettings, BadState, NotBlock, Container, NoFamily, NoPlace, BadPayload, BadNumbers, BadAddress, Finished, Again, Written, Completed, Noted, Kept}
use Rattle.why_causes.specs.declared.Reason.{Reason}
use Rattle.why.specs.declared.WhyPlace.{WhyPlace}
use Rattle.why.specs.Why.{settings_row, denial_reason, denial_row, no_marks, entries_of}
use Rattle.why_place.specs.declared.Denial.{Denial}

-- "A place asked for alone, with settings and a flash length, is refused by 1, 2 or 8, in that order."
unfoldable pub place_checks : Settings → ℕ → ℕ → List Reason
place_checks s len f = flash_row len ++ (settings_row s len ++ denial_row f flash_denials)

-- what each of them tests
abbrev pub place_test : Settings → ℕ → ℕ → Cause → ℕ → ℕ → Bool
place_test s len f (BadBuffers x) g n = number_test (BadBuffers x) g n
place_test s len f (BadSettings x) g n = fault_in s len x
place_test s len f (BadState x) g n = number_test (BadState x) g n
place_test s len f (NotBlock x) g n = number_test (NotBlock x) g n
place_test s len f Container g n = number_test Container g n
place_test s len f NoFamily g n = number_test NoFamily g n
place_test s len f (NoPlace x) g n = denies s f x
place_test s len f BadPayload g n = number_test BadPayload g n
place_test s len f (BadNumbers x) g n = number_test (BadNumbers x) g n
place_test s len f (BadAddress x) g n = number_test (BadAddress x) g n
place_test s len f Finished g n = number_test Finished g n
place_test s len f Again g n = number_test Again g n
place_test s len f (Written x) g n = number_test (Written x) g n
place_test s len f Completed g n = number_test Completed g n
place_test s len f Noted g n = number_test Noted g n
place_test s len f Kept g n = number_test Kept g n

abbrev pub holds_of : Settings → ℕ → ℕ → Reason → Bool
holds_of s len f r = place_test s len f r.cause r.got r.against

-- where the place comes from, of a family that is not shut out
abbrev pub placed_spot : ℕ → Result Origin Denial → Result Origin Reason
placed_spot f (Err x) = Err (denial_reason f x)
placed_spot f (Ok x) = Ok x

abbrev pub placed_by : Result (Unit {0}) Reason → Result Origin Reason → Result Origin Reason
placed_by (Ok u) y = y
placed_by (Err x) y = Err x

unfoldable pub placed_of : Settings → ℕ → ℕ → Result Origin Reason
placed_of s len f = placed_by (row_of (holds_of s len f) (place_checks s len f)) (placed_spot f (granted_spot s f))

-- the answer's number, and 0 for a place that is found
abbrev pub placed_number : Result Origin Reason → ℕ
placed_number (Err x) = number_of (answer_of x.cause)
placed_number (Ok x) = 0

-- the marks of a refusal
abbrev pub placed_marks : Settings → ℕ → Result Origin Reason → List ℕ
placed_marks s f (Err x) = entries_of s f x.cause
placed_marks s f (Ok x) = no_marks

-- of a place asked for alone
abbrev pub why_place_number : WhyPlace → ℕ
why_place_number y = placed_number y.placed

unfoldable pub why_place_of : Settings → ℕ → ℕ → WhyPlace
why_place_of s len f = record { placed = placed_of s len f; entries = placed_marks s f (placed_of s len f) }
