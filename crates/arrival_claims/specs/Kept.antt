-- What is claimed of one arrival that names a region (02, L9: "Don't rewrite what is there."), whatever the settings, the transfer, the buffers and
-- the arrival. Proved in proofs/Kept.antt. Assumes nothing.
use Rattle.std.specs.Prelude.{ℕ, ◌-◌, ◌≤◌, ◌≡◌, cond, List, eqb}
use Rattle.partitions.specs.declared.Settings.{Settings}
use Rattle.transfer.specs.Transfer.{number_of}
use Rattle.transfer.specs.declared.Answer.{Answer}
use Rattle.transfer.specs.declared.Answer.TheVariants.{Written}
use Rattle.arrival.specs.Standing.{Standing}
use Rattle.arrival.specs.Arrive.{World, Outcome, receive_of}
use Rattle.arrival.specs.Facts.{Alike, flagged}
use Rattle.arrival_claims.specs.Comments.{Unstored}

-- ---- "Look and take read flash now: 01's lines that no answer depends on its bytes or on flag 0x4000 except 14 and 17 here."

-- 17 told as 14
abbrev pub soft : Answer → Answer
soft x = cond (eqb (number_of x) 17) Written x

-- the same answer but for 14 and 17, the same "discarded", the same next transfer and seen map
pub record Agree (o p : Outcome) : Type 0 where
  pub answer : soft o.answer ≡ soft p.answer
  pub discarded : o.discarded ≡ p.discarded
  pub transfer : o.world.transfer ≡ p.world.transfer
  pub seen : o.world.seen ≡ p.world.seen

unfoldable pub FlashDecides14Or17 : Type 0
FlashDecides14Or17 = (s : Settings) (v w : World) (a : List ℕ) → Alike v w → Agree (receive_of s v a) (receive_of s w a)

unfoldable pub Flag0x4000Decides14Or17 : Type 0
Flag0x4000Decides14Or17 = (s : Settings) (w : World) (a : List ℕ) → Agree (receive_of s w (flagged 0x40 a)) (receive_of s w a)

-- ---- when it is kept

-- "that would be 14 or 15, .. clear as in 01, mark the number, raise the count and store nothing: answer 17 Kept, or 15 if last."
unfoldable pub StandingKept : Type 0
StandingKept =
    (s : Settings) (w : World) (a : List ℕ) → Standing s w a → 14 ≤ number_of (receive_of s w a).answer → Unstored 17 w a (receive_of s w a)

-- and no other block
unfoldable pub KeptStands : Type 0
KeptStands = (s : Settings) (w : World) (a : List ℕ) → number_of (receive_of s w a).answer ≡ 17 → Standing s w a

-- "Else as before.": where it does not stand, the flag changes nothing of the whole outcome
unfoldable pub ElseAsBefore : Type 0
ElseAsBefore =
    (s : Settings) (w : World) (a : List ℕ) → (Standing s w a → ⊥) → (Standing s w (flagged 0x40 a) → ⊥)
    → receive_of s w (flagged 0x40 a) ≡ receive_of s w a
