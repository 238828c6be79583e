-- What a call for a reason answers and writes. Assumes nothing.
use Rattle.std.specs.Prelude.{ℕ, ◌/◌, ◌%◌, false, not, cond, ◌&&◌, List, ◌∷◌, ltb, eqb, length, Result, Ok, Err}
use Rattle.laws.specs.Over.{over}
use Rattle.uf2_block.specs.Write.{put_at}
use Rattle.transfer.specs.Transfer.{number_of}
use Rattle.transfer_layout.specs.Results.{result_of}
use Rattle.settings_layout.specs.Layout.{byte_at}
use Rattle.why_settings.specs.declared.Fault.{Fault}
use Rattle.why_settings.specs.declared.Fault.TheVariants.{ArchOff, CountOver, NoSectors, PastFlash, Shares, LinksUp, LinksToB, ManyUsers, ReservedUser}
use Rattle.why_causes.specs.Causes.{answer_of, cause_number}
use Rattle.why_causes.specs.declared.Cause.{Cause}
use Rattle.why_causes.specs.declared.Cause.TheVariants.{BadBuffers, BadSettings, BadState, NotBlock, Container, NoFamily, NoPlace, BadPayload, BadNumbers, BadAddress, Finished, Again, Written, Completed, Noted, Kept}
use Rattle.why.specs.Placed.{placed_number}
use Rattle.why.specs.declared.Why.{Why}
use Rattle.why.specs.declared.WhyPlace.{WhyPlace}
use Rattle.why_place.specs.declared.Origin.{Origin}
use Rattle.why_place.specs.declared.Origin.TheVariants.{Whole, Entry}
use Rattle.why_place.specs.declared.Rule.{Rule}
use Rattle.why_place.specs.declared.Rule.TheVariants.{Absolute, NoTable}
use Rattle.whyapi.specs.declared.told.ReasonFields.{ReasonFields}
-- what is told of settings' bytes
pub use Rattle.whyapi.specs.Told.{told_with, bare}
unfoldable pub use Rattle.whyapi.specs.Told.{link_byte, link_over, link_told, settings_told}
use Rattle.why_causes.specs.declared.Reason.{Reason}

-- ---- what is told of a reason

-- the entry that a fault is of, and the other that it names; 0 where there is none
abbrev pub fault_entry : Fault → ℕ
fault_entry ArchOff = 0
fault_entry CountOver = 0
fault_entry (NoSectors k) = k
fault_entry (PastFlash k) = k
fault_entry (Shares k j) = k
fault_entry (LinksUp k) = k
fault_entry (LinksToB k) = k
fault_entry (ManyUsers k) = k
fault_entry (ReservedUser k) = k

abbrev pub fault_other : Fault → ℕ
fault_other ArchOff = 0
fault_other CountOver = 0
fault_other (NoSectors k) = 0
fault_other (PastFlash k) = 0
fault_other (Shares k j) = j
fault_other (LinksUp k) = 0
fault_other (LinksToB k) = 0
fault_other (ManyUsers k) = 0
fault_other (ReservedUser k) = 0

-- what bad settings give, by their fault, and 0 for every other cause
abbrev pub on_fault : (Fault → ℕ) → Cause → ℕ
on_fault f (BadBuffers x) = 0
on_fault f (BadSettings x) = f x
on_fault f (BadState x) = 0
on_fault f (NotBlock x) = 0
on_fault f Container = 0
on_fault f NoFamily = 0
on_fault f (NoPlace x) = 0
on_fault f BadPayload = 0
on_fault f (BadNumbers x) = 0
on_fault f (BadAddress x) = 0
on_fault f Finished = 0
on_fault f Again = 0
on_fault f (Written x) = 0
on_fault f Completed = 0
on_fault f Noted = 0
on_fault f Kept = 0

abbrev pub entry_of : Cause → ℕ
entry_of c = on_fault fault_entry c

abbrev pub other_of : Cause → ℕ
other_of c = on_fault fault_other c

abbrev pub told_of : Why → ReasonFields
told_of y =
    told_with (cause_number y.reason.cause) y.reason.got y.reason.against (entry_of y.reason.cause) (other_of y.reason.cause) y.entries

-- ---- bytes that are no settings or no transfer are named as that, and no number is told that nobody handed in

-- 306: a wrong length, and the right one; 307: a state byte over 2, or of a transfer that is not Idle a kind byte over 2 (layout's `state_of`)
unfoldable pub transfer_told : List ℕ → ReasonFields → ReasonFields
transfer_told b x =
    cond (eqb (length b) 14)
    (cond (ltb 2 (byte_at b 0)) (bare 307 (byte_at b 0) 2) (cond (not (eqb (byte_at b 0) 0) && ltb 2 (byte_at b 13)) (bare 307 (byte_at b 13) 2) x))
    (bare 306 (length b) 14)

-- in the row of the answer that they earn, by its number
unfoldable pub byte_told : ℕ → List ℕ → List ℕ → ReasonFields → ReasonFields
byte_told n s t y = cond (eqb n 2) (settings_told s y) (cond (eqb n 3) (transfer_told t y) y)

-- ---- 38 bytes: 0 the condition's number, 4 the number tested, 12 what it is tested against, the lowest byte first; 20 the entry, 21 the other; 22 a
-- mark for each of 16 entries

unfoldable pub numbers_over : List ℕ → ℕ → ℕ → ℕ → List ℕ
numbers_over l number g a =
    put_at (put_at (put_at (put_at (put_at l 0 number) 4 (g % 4294967296)) 8 (g / 4294967296)) 12 (a % 4294967296)) 16 (a / 4294967296)

abbrev pub marks_over : List ℕ → ℕ → ℕ → List ℕ → List ℕ
marks_over l entry other m = over l 20 (entry ∷ other ∷ m)

-- of another length they stay
unfoldable pub told_over : List ℕ → ReasonFields → List ℕ
told_over l x = cond (eqb (length l) 38) (marks_over (numbers_over l x.number x.got x.against) x.entry x.other x.marks) l

-- ---- the call

-- what is returned, and what the bytes of the reason hold
pub record Call : Type 0 where
  pub result : ℕ
  pub reason : List ℕ

abbrev pub call_return : ℕ → List ℕ → Call
call_return n l = record { result = n; reason = l }

-- of a reason, with the bytes of settings and transfer
unfoldable pub why_call : List ℕ → List ℕ → Why → List ℕ → Call
why_call s t y l =
    call_return (result_of (number_of (answer_of y.reason.cause)) y.discarded) (told_over l (byte_told (number_of (answer_of y.reason.cause)) s t (told_of y)))

-- ---- a place asked for alone

-- "the whole-flash rule": 1 absolute, 2 no table
abbrev pub rule_number : Rule → ℕ
rule_number Absolute = 1
rule_number NoTable = 2

-- "it names the pass and the entry, or the whole-flash rule"
abbrev pub place_told : Result Origin Reason → List ℕ → ReasonFields
place_told (Err x) m = told_of (record { reason = x; discarded = false; entries = m })
place_told (Ok (Whole r)) m = told_with (rule_number r) 0 0 0 0 m
place_told (Ok (Entry p k)) m = told_with 3 p 0 k 0 m

-- bytes that are no settings, where that is the answer
unfoldable pub place_shown : ℕ → List ℕ → ReasonFields → ReasonFields
place_shown n s x = cond (eqb n 2) (settings_told s x) x

unfoldable pub place_call : List ℕ → WhyPlace → List ℕ → Call
place_call s y l = call_return (placed_number y.placed) (told_over l (place_shown (placed_number y.placed) s (place_told y.placed y.entries)))
