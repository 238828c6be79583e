-- What is claimed of one arrival, whatever the settings, the transfer, the buffers and the arrival. Proved in proofs/Facts.antt.
-- Assumes nothing.
use Rattle.std.specs.Prelude.{ℕ, ◌+◌, ◌≡◌, List, length, get_or, set}
use Rattle.partitions.specs.declared.Settings.{Settings}
use Rattle.arrival.specs.Arrive.{World, lengths_of, receive_of, forecast, look_of}

-- the same but for bytes of flash and RAM, and the sector map
pub record Alike (v w : World) : Type 0 where
  pub transfer : v.transfer ≡ w.transfer
  pub seen : v.seen ≡ w.seen
  pub lengths : lengths_of v.held ≡ lengths_of w.held
  pub sectors_length : length v.held.sectors ≡ length w.held.sectors

-- "Answers depend on the arrival, settings, transfer, seen map and lengths, never on .. the sector map.", nor on a byte of RAM; what they read of
-- flash is said in Kept.antt of `arrivals`
unfoldable pub AnswersReadNoMap : Type 0
AnswersReadNoMap =
    (s : Settings) (v w : World) (a : List ℕ) → Alike v w → v.held.flash ≡ w.held.flash
    → ((receive_of s v a).answer ≡ (receive_of s w a).answer) × ((receive_of s v a).discarded ≡ (receive_of s w a).discarded)

-- every buffer keeps its length
pub record LengthsKept (v w : World) : Type 0 where
  pub buffers : lengths_of v.held ≡ lengths_of w.held
  pub seen : length v.seen ≡ length w.seen
  pub sectors : length v.held.sectors ≡ length w.held.sectors

-- so the next arrival's buffers are as right as this one's were
unfoldable pub ArrivalsKeepLengths : Type 0
ArrivalsKeepLengths = (s : Settings) (w : World) (a : List ℕ) → LengthsKept (receive_of s w a).world w

-- x more in the second byte of an arrival's flags, where 0x40 is the flag 0x4000 and 0x80 is 0x8000
abbrev pub flagged : ℕ → List ℕ → List ℕ
flagged x a = set a 9 (get_or a 9 0 + x)

-- "Flags .. 0x8000 don't change an answer", nor anything else; what 0x4000 changes is said in Kept.antt of `arrivals`
unfoldable pub Flag0x8000Ignored : Type 0
Flag0x8000Ignored = (s : Settings) (w : World) (a : List ℕ) → receive_of s w (flagged 0x80 a) ≡ receive_of s w a

-- 02, L7: "On the same inputs both give the old call's answer and "discarded""
unfoldable pub LookTells : Type 0
LookTells =
    (s : Settings) (w : World) (a : List ℕ) → look_of s w a ≡ forecast (receive_of s w a).answer (receive_of s w a).discarded
