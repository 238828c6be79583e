-- The law of the call that replays a trace. Assumes nothing.
use Prim.Native.Nat.{ℕ}
use mathlib.Core.Path.{◌≡◌, ap, ◌∙◌}
use mathlib.Core.List.{List}
use Rattle.partitions.specs.declared.Settings.{Settings}
use Rattle.arrival.specs.Arrive.{Lent}
use Rattle.uf2_receiver.specs.Receiver.{world}
use Rattle.settings_layout.specs.Layout.{settings_from, with_transfer}
use Rattle.trace_replay.specs.declared.TraceReceipt.{TraceReceipt}
use Rattle.trace_replay.specs.Replay.{trace_outcome, replay_of}
use Rattle.trace_layout.specs.Kept.{stop_number, with_stop}
use Rattle.traceapi.specs.ReplayCall.{replay_call, replay_call_end, replay_bytes}

pub replay_ran : (s trace t i : List ℕ) (h : Lent) {z : Settings} {r : TraceReceipt} {g : Lent} {u v : List ℕ} {n : ℕ} → z ≡ settings_from s → trace_outcome r.stop (world r.transfer g) ≡ replay_of z h trace → u ≡ with_transfer t r.transfer.state → v ≡ with_stop i r.stop → n ≡ stop_number r.stop → replay_call n u v g ≡ replay_bytes s trace t i h
unfolding replay_bytes
replay_ran s trace t i h hz ho hu hv hn =
    rw (hn, hu, hv) (ap (replay_call_end t i) (ho ∙ ap (λ (z : Settings). replay_of z h trace) hz))
