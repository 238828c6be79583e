use Prim.Native.Nat.{◌≤◌, ◌*◌}
use mathlib.Core.Path.{◌≡◌}
use lib.ListN.{length}
use Rattle.uf2_receiver.specs.Receiver.{lent, world}
use Rattle.trace_counts.specs.Tally.{tally_to}
use Rattle.trace_replay.specs.Replay.{pieces_of, replay_from}
use Rattle.trace_replay.proofs.Laws.{left}
use Rattle.trace_replay.proofs.run.Given as goal

abbrev pub invariant-loop-k : goal.invariant-loop-k
invariant-loop-k l =
    (513 * l.k ≤ length l.trace)
    × (l.tally ≡ tally_to l.initial.tally l.trace l.k)
    × (left l.settings l.trace (513 * l.k) l.k l.t (lent l.flash l.seen l.sectors l.main l.xip) ≡ replay_from l.settings 0 (world l.initial.t (lent l.initial.flash l.initial.seen l.initial.sectors l.initial.main l.initial.xip)) (pieces_of l.trace))
