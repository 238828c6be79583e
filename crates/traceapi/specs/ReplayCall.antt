-- What the call that replays a trace (02, L10) answers and leaves. Assumes nothing.
use Rattle.std.specs.Prelude.{ℕ, List}
use Rattle.arrival.specs.Arrive.{Lent, lent_of}
use Rattle.uf2_receiver.specs.Receiver.{Slice}
use Rattle.settings_layout.specs.Layout.{settings_from, with_transfer}
use Rattle.trace_replay.specs.Replay.{TraceOutcome, replay_of}
use Rattle.trace_layout.specs.Kept.{stop_number, with_stop}

-- what is returned, and what the lent buffers hold
pub record ReplayCall : Type 0 where
  pub result : ℕ
  pub transfer : List ℕ
  pub index : List ℕ
  pub lent : Lent

-- all of them as one value, which the contract names
abbrev pub replay_call : ℕ → List ℕ → List ℕ → Lent → ReplayCall
replay_call n t i h = record { result = n; transfer = t; index = i; lent = h }

-- what a call returns and leaves of a trace that comes to o; t and i are the bytes of transfer and index as they were lent
abbrev pub replay_call_end : List ℕ → List ℕ → TraceOutcome → ReplayCall
replay_call_end t i o = replay_call (stop_number o.stop) (with_transfer t o.world.transfer) (with_stop i o.stop) (lent_of o.world)

-- bytes of settings, trace, bytes of transfer and index, and what is lent
unfoldable pub replay_bytes : List ℕ → List ℕ → List ℕ → List ℕ → Lent → ReplayCall
replay_bytes s trace t i h = replay_call_end t i (replay_of (settings_from s) h trace)

-- the same of the slices that the call is lent, and what it returns and leaves, which the contract names
abbrev pub replay_call_of : Slice → Slice → Slice → Slice → Lent → ReplayCall
replay_call_of s trace t i h = replay_bytes s trace t i h

abbrev pub replay_return : ℕ → Slice → Slice → Lent → ReplayCall
replay_return n t i h = replay_call n t i h
