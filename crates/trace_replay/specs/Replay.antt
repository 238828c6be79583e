-- A whole trace (02, L10): its pieces one after the other, from Idle. Assumes nothing.
use Rattle.std.specs.Prelude.{ℕ, zero, suc, ◌+◌, ◌/◌, cond, List, [], ◌∷◌, Option, None, length, take, drop}
use Rattle.memory.specs.Bitmap.{unmarked}
use Rattle.partitions.specs.declared.Settings.{Settings}
use Rattle.transfer.specs.Transfer.{fresh}
use Rattle.transfer.specs.declared.Transfer.{Transfer}
use Rattle.arrival.specs.Arrive.{Lent, World}
use Rattle.uf2_receiver.specs.Receiver.{lent, world}
use Rattle.trace_piece.specs.declared.Stop.{Stop}
use Rattle.trace_piece.specs.Piece.{is_replayed, stop_of}
pub use Rattle.trace_piece.specs.Ends.{before_stop}
use Rattle.trace_replay.specs.Trace.{PieceOutcome, piece_of}
use Rattle.trace_counts.specs.Tally.{tally_to}

-- ---- the pieces of a trace

-- n pieces of 513 bytes, where the last may be shorter
unfoldable pub cut : ℕ → List ℕ → List (List ℕ)
cut zero l = []
cut (suc n) l = take 513 l ∷ cut n (drop 513 l)

-- "A trace is records of 513 bytes"
unfoldable pub pieces_of : List ℕ → List (List ℕ)
pieces_of l = cut ((length l + 512) / 513) l

-- ---- the whole

-- where it stopped, with the transfer and the buffers that it leaves
pub record TraceOutcome : Type 0 where
  pub stop : Option Stop
  pub world : World

-- both as one value, which the contract names
abbrev pub trace_outcome : Option Stop → World → TraceOutcome
trace_outcome x w = record { stop = x; world = w }

-- a piece that is not replayed, with index i, stops the replay; else what the pieces after it come to is what comes
abbrev pub went_on : ℕ → PieceOutcome → TraceOutcome → TraceOutcome
went_on i o rest = cond (is_replayed o.answer) rest (trace_outcome (stop_of o.answer i) o.world)

-- pieces one after the other, the first with index i; "else it says "none""
unfoldable pub replay_from : Settings → ℕ → World → List (List ℕ) → TraceOutcome
replay_from s i w [] = trace_outcome None w
replay_from s i w (p ∷ l) = went_on i (piece_of s w p) (replay_from s (i + 1) (piece_of s w p).world l)

-- "From Idle with given settings and buffers, both maps zeroed first"
unfoldable pub begun : Lent → World
begun h = world fresh (lent h.flash (unmarked (length h.seen)) (unmarked (length h.sectors)) h.main h.xip)

unfoldable pub replay_of : Settings → Lent → List ℕ → TraceOutcome
replay_of s h t = replay_from s 0 (begun h) (pieces_of t)

-- ---- with a tally

-- what a replay comes to, and what the lent tally holds
pub record TallyOutcome : Type 0 where
  pub outcome : TraceOutcome
  pub tally : List ℕ

abbrev pub tally_outcome : TraceOutcome → List ℕ → TallyOutcome
tally_outcome o l = record { outcome = o; tally = l }

-- all of it as one value, which the contract names
abbrev pub tally_return : Option Stop → Transfer → List ℕ → Lent → TallyOutcome
tally_return x u l h = tally_outcome (trace_outcome x (world u h)) l

-- the records before the stop counted in a tally that was l
unfoldable pub with_counts : List ℕ → List ℕ → TraceOutcome → TallyOutcome
with_counts l t o = tally_outcome o (tally_to l t (before_stop (length t / 513) o.stop))

-- the pieces from Idle, and the whole: of settings, the tally and the trace, and what is lent
abbrev pub counted_run : Settings → List ℕ → List ℕ → Lent → TallyOutcome
counted_run s l t h = with_counts l t (replay_from s 0 (world fresh h) (pieces_of t))

abbrev pub counted_replay : Settings → List ℕ → List ℕ → Lent → TallyOutcome
counted_replay s l t h = with_counts l t (replay_of s h t)
