-- Why an arrival is answered as it is (02, L6): the reason, whether a running transfer is discarded, and the marks of the entries. Assumes nothing.
use Rattle.std.specs.Prelude.{ℕ, Bool, false, List}
use Rattle.memory.specs.Many.{many}
use Rattle.uf2_block.specs.Block.{field_at}
use Rattle.partitions.specs.declared.Settings.{Settings}
use Rattle.transfer.specs.Transfer.{number_of}
use Rattle.why_causes.specs.Causes.{answer_of}
use Rattle.transfer.specs.declared.Head.{Head}
use Rattle.transfer.specs.declared.State.{State}
use Rattle.arrival.specs.Arrive.{World}
use Rattle.why_place.specs.Placing.{marks_of}
use Rattle.why_place.specs.declared.Denial.{Denial}
use Rattle.why_place.specs.declared.Denial.TheVariants.{AbsoluteOff, Rp2040, ArmOff, RiscvOff, NotWithoutTable, NoEntry, NotForRam}
use Rattle.why_causes.specs.declared.Cause.{Cause}
use Rattle.why_causes.specs.declared.Cause.TheVariants.{BadBuffers, BadSettings, BadState, NotBlock, Container, NoFamily, NoPlace, BadPayload, BadNumbers, BadAddress, Finished, Again, Written, Completed, Noted, Kept}
use Rattle.why_causes.specs.declared.Reason.{Reason}
use Rattle.why_checks.specs.Block.{runs_other}
use Rattle.why.specs.declared.Why.{Why}
-- every check in its order, and the one that decides
pub use Rattle.why.specs.Checklist.{fault_reason, denial_reason, block_kind, head_in, place_in, last_of, test_of, holds_in}
unfoldable pub use Rattle.why.specs.Checklist.{fault_row, settings_row, denial_row, place_row, block_row, board_rows, checks_of, reason_of}

-- "discarded": of a block that is accepted
abbrev pub discards_of : State → Head → Cause → Bool
discards_of t g (BadBuffers x) = false
discards_of t g (BadSettings x) = false
discards_of t g (BadState x) = false
discards_of t g (NotBlock x) = false
discards_of t g Container = false
discards_of t g NoFamily = false
discards_of t g (NoPlace x) = false
discards_of t g BadPayload = false
discards_of t g (BadNumbers x) = false
discards_of t g (BadAddress x) = false
discards_of t g Finished = false
discards_of t g Again = false
discards_of t g (Written x) = runs_other t g
discards_of t g Completed = runs_other t g
discards_of t g Noted = runs_other t g
discards_of t g Kept = runs_other t g

-- no mark for any of the 16 entries
unfoldable pub no_marks : List ℕ
no_marks = many 16 0

-- "for each used entry "B of" or else "doesn't accept"", where no entry of a table takes the family
abbrev pub denial_marks : Settings → ℕ → Denial → List ℕ
denial_marks s f AbsoluteOff = no_marks
denial_marks s f Rp2040 = no_marks
denial_marks s f ArmOff = no_marks
denial_marks s f RiscvOff = no_marks
denial_marks s f NotWithoutTable = no_marks
denial_marks s f NoEntry = marks_of s f
denial_marks s f NotForRam = no_marks

abbrev pub entries_of : Settings → ℕ → Cause → List ℕ
entries_of s f (BadBuffers x) = no_marks
entries_of s f (BadSettings x) = no_marks
entries_of s f (BadState x) = no_marks
entries_of s f (NotBlock x) = no_marks
entries_of s f Container = no_marks
entries_of s f NoFamily = no_marks
entries_of s f (NoPlace x) = denial_marks s f x
entries_of s f BadPayload = no_marks
entries_of s f (BadNumbers x) = no_marks
entries_of s f (BadAddress x) = no_marks
entries_of s f Finished = no_marks
entries_of s f Again = no_marks
entries_of s f (Written x) = no_marks
entries_of s f Completed = no_marks
entries_of s f Noted = no_marks
entries_of s f Kept = no_marks

-- all of it, for a reason
abbrev pub why_with : Settings → World → List ℕ → Reason → Why
why_with s w a r =
    record {
      reason = r;
      discarded = discards_of w.transfer (head_in w a) r.cause;
      entries = entries_of s (field_at a 28) r.cause;
    }

-- the number of its answer
abbrev pub why_number : Why → ℕ
why_number y = number_of (answer_of y.reason.cause)

unfoldable pub why_of : Settings → World → List ℕ → Why
why_of s w a = why_with s w a (reason_of s w a)
