-- Why an arrival is answered as it is (02, L6): "it names the condition that decided". A cause is a condition of a row: its answer, its number and,
-- where the condition compares two numbers, that comparison. Assumes nothing.
use Rattle.std.specs.Prelude.{ℕ, ◌/◌, ◌%◌, Bool, false, not, ◌&&◌, ltb, leb, eqb}
use Rattle.transfer.specs.declared.Answer.{Answer}
use Rattle.transfer.specs.declared.Answer.TheVariants as answer
use Rattle.why_settings.specs.Faults.{fault_number}
use Rattle.why_place.specs.Placing.{denial_number}
use Rattle.why_causes.specs.declared.Length.{Length}
use Rattle.why_causes.specs.declared.Length.TheVariants.{Arrival, FlashRagged, FlashUnder, FlashOver, Seen, Sectors, Main, Xip}
use Rattle.why_causes.specs.declared.Bound.{Bound}
use Rattle.why_causes.specs.declared.Bound.TheVariants.{CountUnder, CountOver, RunningOver, DoneUnder, DoneOver}
use Rattle.why_causes.specs.declared.Magic.{Magic}
use Rattle.why_causes.specs.declared.Magic.TheVariants.{First, Second, Last}
use Rattle.why_causes.specs.declared.Numbers.{Numbers}
use Rattle.why_causes.specs.declared.Numbers.TheVariants.{TotalZero, TotalPast, NumberPast}
use Rattle.why_causes.specs.declared.Address.{Address}
use Rattle.why_causes.specs.declared.Address.TheVariants.{Below, Ragged, Past, PastWindow, NoWindow}
use Rattle.why_causes.specs.declared.NotKept.{NotKept}
use Rattle.why_causes.specs.declared.NotKept.TheVariants as not_kept
use Rattle.why_causes.specs.declared.Cause.{Cause}
use Rattle.why_causes.specs.declared.Cause.TheVariants.{BadBuffers, BadSettings, BadState, NotBlock, Container, NoFamily, NoPlace, BadPayload, BadNumbers, BadAddress, Finished, Again, Written, Completed, Noted, Kept}
use Rattle.why_causes.specs.declared.Reason.{Reason}

-- "the condition that decided", with "the number tested and what it is tested against; from 14 on, the raised count and the total"
abbrev pub reason_with : Cause → ℕ → ℕ → Reason
reason_with c g a = record { cause = c; got = g; against = a }

-- ---- the answer of a condition's row

abbrev pub answer_of : Cause → Answer
answer_of (BadBuffers x) = answer.BadBuffers
answer_of (BadSettings x) = answer.BadSettings
answer_of (BadState x) = answer.BadState
answer_of (NotBlock x) = answer.NotBlock
answer_of Container = answer.Container
answer_of NoFamily = answer.NoFamily
answer_of (NoPlace x) = answer.NoPlace
answer_of BadPayload = answer.BadPayload
answer_of (BadNumbers x) = answer.BadNumbers
answer_of (BadAddress x) = answer.BadAddress
answer_of Finished = answer.Finished
answer_of Again = answer.Again
answer_of (Written x) = answer.Written
answer_of Completed = answer.Completed
answer_of Noted = answer.Noted
answer_of Kept = answer.Kept

-- ---- the conditions' numbers: the row times 100, and the condition's place in it "as written"

abbrev pub length_number : Length → ℕ
length_number Arrival = 101
length_number FlashRagged = 102
length_number FlashUnder = 103
length_number FlashOver = 104
length_number Seen = 105
length_number Sectors = 106
length_number Main = 107
length_number Xip = 108

abbrev pub bound_number : Bound → ℕ
bound_number CountUnder = 301
bound_number CountOver = 302
bound_number RunningOver = 303
bound_number DoneUnder = 304
bound_number DoneOver = 305

abbrev pub magic_number : Magic → ℕ
magic_number First = 401
magic_number Second = 402
magic_number Last = 403

abbrev pub numbers_number : Numbers → ℕ
numbers_number TotalZero = 1001
numbers_number TotalPast = 1002
numbers_number NumberPast = 1003

abbrev pub address_number : Address → ℕ
address_number Below = 1101
address_number Ragged = 1102
address_number Past = 1103
address_number PastWindow = 1104
address_number NoWindow = 1105

abbrev pub not_kept_number : NotKept → ℕ
not_kept_number not_kept.NoRegion = 1401
not_kept_number not_kept.InRam = 1402
not_kept_number not_kept.Ragged = 1403
not_kept_number not_kept.Empty = 1404
not_kept_number not_kept.OutsidePlace = 1405
not_kept_number not_kept.NotAround = 1406
not_kept_number not_kept.OtherDigest = 1407

abbrev pub cause_number : Cause → ℕ
cause_number (BadBuffers x) = length_number x
cause_number (BadSettings x) = fault_number x
cause_number (BadState x) = bound_number x
cause_number (NotBlock x) = magic_number x
cause_number Container = 501
cause_number NoFamily = 701
cause_number (NoPlace x) = denial_number x
cause_number BadPayload = 901
cause_number (BadNumbers x) = numbers_number x
cause_number (BadAddress x) = address_number x
cause_number Finished = 1201
cause_number Again = 1301
cause_number (Written x) = not_kept_number x
cause_number Completed = 1501
cause_number Noted = 1601
cause_number Kept = 1701

-- ---- what a condition says of the number tested, g, and what it is tested against, a; where it holds, it decides

-- row 1: "arrival, flash or a map has a wrong length": flash is a "multiple of 4,096, from 4,096 to 33,554,432"; RAM's are right or empty (02, L8)
abbrev pub length_test : Length → ℕ → ℕ → Bool
length_test Arrival g a = not (eqb g a)
length_test FlashRagged g a = not (eqb (g % a) 0)
length_test FlashUnder g a = ltb g a
length_test FlashOver g a = ltb a g
length_test Seen g a = not (eqb g a)
length_test Sectors g a = not (eqb g a)
length_test Main g a = not (eqb g 0) && not (eqb g a)
length_test Xip g a = not (eqb g 0) && not (eqb g a)

-- row 3: "Running without 1 <= count < total <= 131,072; Done without 1 <= total <= 131,072"
abbrev pub bound_test : Bound → ℕ → ℕ → Bool
bound_test CountUnder g a = ltb g a
bound_test CountOver g a = leb a g
bound_test RunningOver g a = ltb a g
bound_test DoneUnder g a = ltb g a
bound_test DoneOver g a = ltb a g

-- row 10: "total 0, total x 256 over the place, or number >= total"
abbrev pub numbers_test : Numbers → ℕ → ℕ → Bool
numbers_test TotalZero g a = eqb g a
numbers_test TotalPast g a = ltb a g
numbers_test NumberPast g a = leb a g

-- row 11: "below the window, no multiple of 256, or address - 0x10000000 + 256 over the place"; in RAM "only address + 256 past the window's end"; an
-- address "in no window" (02, L8) that is not below flash's is at its end or past it
abbrev pub address_test : Address → ℕ → ℕ → Bool
address_test Below g a = ltb g a
address_test Ragged g a = not (eqb (g % a) 0)
address_test Past g a = ltb a g
address_test PastWindow g a = ltb a g
address_test NoWindow g a = leb a g

-- every row that is a comparison of two numbers: besides, "a magic number differs", flag a set and clear, "size isn't 256", and of row 15 the raised
-- count not "under the block's total". The other rows ask something else of the settings, the family or the block, and not of these numbers.
abbrev pub number_test : Cause → ℕ → ℕ → Bool
number_test (BadBuffers x) g a = length_test x g a
number_test (BadSettings x) g a = false
number_test (BadState x) g a = bound_test x g a
number_test (NotBlock x) g a = not (eqb g a)
number_test Container g a = eqb (g / a % 2) 1
number_test NoFamily g a = not (eqb (g / a % 2) 1)
number_test (NoPlace x) g a = false
number_test BadPayload g a = not (eqb g a)
number_test (BadNumbers x) g a = numbers_test x g a
number_test (BadAddress x) g a = address_test x g a
number_test Finished g a = false
number_test Again g a = false
number_test (Written x) g a = false
number_test Completed g a = leb a g
number_test Noted g a = false
number_test Kept g a = false
