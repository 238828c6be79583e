-- What a cause says of a discard and of the marks, as the code asks it. Assumes nothing.
use mathlib.Core.Path.{◌≡◌, refl, ap, ◌∙◌}
use mathlib.Core.Bool.{Bool}
use Prim.Native.Nat.{ℕ}
use Rattle.partitions.specs.declared.Settings.{Settings}
use Rattle.transfer.specs.Transfer.{number_of}
use Rattle.transfer.specs.declared.Answer.{Answer}
use Rattle.transfer.specs.declared.Head.{Head}
use Rattle.transfer.specs.declared.State.{State}
use Rattle.why_place.specs.declared.Denial.{Denial}
use Rattle.why_place.specs.declared.Denial.TheVariants.{AbsoluteOff, Rp2040, ArmOff, RiscvOff, NotWithoutTable, NoEntry, NotForRam}
use Rattle.why_causes.specs.Causes.{answer_of}
use Rattle.why_causes.specs.declared.Cause.{Cause}
use Rattle.why_causes.specs.declared.Cause.TheVariants.{BadBuffers, BadSettings, BadState, NotBlock, Container, NoFamily, NoPlace, BadPayload, BadNumbers, BadAddress, Finished, Again, Written, Completed, Noted, Kept}
use Rattle.why_causes.specs.Progress.{discarded_by}
use Rattle.why.specs.Why.{discards_of, no_marks, denial_marks, entries_of}

-- 14 to 17 are the answers that accept a block
discards_by : (t : State) (g : Head) (c : Cause) → discarded_by (number_of (answer_of c)) t g ≡ discards_of t g c
discards_by t g (BadBuffers x) = refl
discards_by t g (BadSettings x) = refl
discards_by t g (BadState x) = refl
discards_by t g (NotBlock x) = refl
discards_by t g Container = refl
discards_by t g NoFamily = refl
discards_by t g (NoPlace x) = refl
discards_by t g BadPayload = refl
discards_by t g (BadNumbers x) = refl
discards_by t g (BadAddress x) = refl
discards_by t g Finished = refl
discards_by t g Again = refl
discards_by t g (Written x) = refl
discards_by t g Completed = refl
discards_by t g Noted = refl
discards_by t g Kept = refl

pub discards_is : (t : State) (g : Head) (c : Cause) {z : Answer} {n : ℕ} {b : Bool} → z ≡ answer_of c → n ≡ number_of z → b ≡ discarded_by n t g → b ≡ discards_of t g c
discards_is t g c e f h = h ∙ (ap (λ (k : ℕ). discarded_by k t g) (f ∙ ap number_of e) ∙ discards_by t g c)

-- by the case, as a `let .. else` tells it
pub no_denial : (s : Settings) (f : ℕ) (c : Cause) → ((x : Denial) → c ≡ NoPlace x → ⊥) → entries_of s f c ≡ no_marks
no_denial s f (BadBuffers x) h = refl
no_denial s f (BadSettings x) h = refl
no_denial s f (BadState x) h = refl
no_denial s f (NotBlock x) h = refl
no_denial s f Container h = refl
no_denial s f NoFamily h = refl
no_denial s f (NoPlace x) h = absurd (h x refl)
no_denial s f BadPayload h = refl
no_denial s f (BadNumbers x) h = refl
no_denial s f (BadAddress x) h = refl
no_denial s f Finished h = refl
no_denial s f Again h = refl
no_denial s f (Written x) h = refl
no_denial s f Completed h = refl
no_denial s f Noted h = refl
no_denial s f Kept h = refl

pub no_entry : (s : Settings) (f : ℕ) (x : Denial) → (x ≡ NoEntry → ⊥) → denial_marks s f x ≡ no_marks
no_entry s f AbsoluteOff h = refl
no_entry s f Rp2040 h = refl
no_entry s f ArmOff h = refl
no_entry s f RiscvOff h = refl
no_entry s f NotWithoutTable h = refl
no_entry s f NoEntry h = absurd (h refl)
no_entry s f NotForRam h = refl
