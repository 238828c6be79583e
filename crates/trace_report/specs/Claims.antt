-- What is claimed of a replay (02, L10), whatever the settings, the buffers and the trace. proofs/ proves each claim, in lower case.
-- Assumes nothing.
use Rattle.std.specs.Prelude.{ℕ, ◌*◌, ◌<◌, ◌≡◌, ◌↔◌, List, [], ◌∷◌, ◌++◌, Option, Some, None, length, get_or}
use Rattle.laws.specs.Sets.{one}
use Rattle.partitions.specs.declared.Settings.{Settings}
use Rattle.transfer.specs.Transfer.{number_of}
use Rattle.transfer.specs.declared.State.TheVariants.{Idle}
use Rattle.arrival.specs.Arrive.{Lent, World, lent_of, receive_of}
use Rattle.arrival.specs.Lists.{receive_all}
use Rattle.trace_replay.specs.Replay.{TraceOutcome, trace_outcome, begun, replay_of}
use Rattle.trace_piece.specs.declared.Stop.{Stop}
use Rattle.trace_piece.specs.declared.Stop.TheVariants.{Bad, Differs}
use Rattle.trace_report.specs.Pieces.{written, IsRecord, piece_at, arrival_at, arrivals_to, records_before}

-- ---- our own records

-- the record of our own answer to an arrival
abbrev pub our_record : Settings → World → List ℕ → List ℕ
our_record s w a = written (number_of (receive_of s w a).answer) (one (receive_of s w a).discarded) a

-- transfer and buffers once these have been received
abbrev pub after : Settings → Lent → List ℕ → ℕ → World
after s h t n = receive_all s (begun h) (arrivals_to t n)

-- piece k is the record of our own answer to its arrival
abbrev pub IsOurs : Settings → Lent → List ℕ → ℕ → Type 0
IsOurs s h t k = (length (piece_at t k) ≡ 513) × (piece_at t k ≡ our_record s (after s h t k) (arrival_at t k))

-- ---- the claims

-- "From Idle with given settings and buffers, both maps zeroed first": to their own length, and nothing else changes
pub record Begins (h : Lent) (w : World) : Type 0 where
  pub idle : w.transfer ≡ Idle
  pub flash : (lent_of w).flash ≡ h.flash
  pub seen : (k : ℕ) → get_or (lent_of w).seen k 0 ≡ 0
  pub seen_length : length (lent_of w).seen ≡ length h.seen
  pub sectors : (k : ℕ) → get_or (lent_of w).sectors k 0 ≡ 0
  pub sectors_length : length (lent_of w).sectors ≡ length h.sectors
  pub main : (lent_of w).main ≡ h.main
  pub xip : (lent_of w).xip ≡ h.xip

unfoldable pub BeginsIdle : Type 0
BeginsIdle = (h : Lent) → Begins h (begun h)

-- "stops at the first record that is short or has stray bits ("bad" and its index from 0) or else whose recorded answer or discard differs
-- from ours ("differs" and its index); else it says "none""
abbrev pub StoppedAt : Settings → Lent → List ℕ → Option Stop → Type 0
StoppedAt s h t None = (k : ℕ) → 513 * k < length t → IsOurs s h t k
StoppedAt s h t (Some (Bad i)) = (513 * i < length t) × ((k : ℕ) → k < i → IsOurs s h t k) × (IsRecord (piece_at t i) → ⊥)
StoppedAt s h t (Some (Differs i)) =
    (513 * i < length t) × ((k : ℕ) → k < i → IsOurs s h t k) × IsRecord (piece_at t i) × (IsOurs s h t i → ⊥)

-- in both directions
unfoldable pub StopIsTheFirst : Type 0
StopIsTheFirst = (s : Settings) (h : Lent) (t : List ℕ) (x : Option Stop) → ((replay_of s h t).stop ≡ x) ↔ StoppedAt s h t x

-- "The end state is the one after the records before the stop", of which each is ours
pub record EndsAfter (s : Settings) (h : Lent) (t : List ℕ) (o : TraceOutcome) : Type 0 where
  pub world : o.world ≡ after s h t (records_before t o.stop)
  pub ours : (k : ℕ) → k < records_before t o.stop → IsOurs s h t k

unfoldable pub EndsBeforeTheStop : Type 0
EndsBeforeTheStop = (s : Settings) (h : Lent) (t : List ℕ) → EndsAfter s h t (replay_of s h t)

-- ---- the format loses nothing

-- what we record of arrivals one after the other
unfoldable pub recording_of : Settings → World → List (List ℕ) → List ℕ
recording_of s w [] = []
recording_of s w (a ∷ l) = our_record s w a ++ recording_of s (receive_of s w a).world l

-- each has "512 bytes"
abbrev pub AllWhole : List (List ℕ) → Type 0
AllWhole [] = Unit {0}
AllWhole (a ∷ l) = (length a ≡ 512) × AllWhole l

-- a recording of our own answers replays to "none", and to the same end
unfoldable pub RecordingReplays : Type 0
RecordingReplays =
    (s : Settings) (h : Lent) (l : List (List ℕ)) → AllWhole l
    → replay_of s h (recording_of s (begun h) l) ≡ trace_outcome None (receive_all s (begun h) l)
