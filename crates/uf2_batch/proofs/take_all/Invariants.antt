use Prim.Native.Nat.{◌-◌, ◌*◌}
use mathlib.Core.Path.{◌≡◌}
use lib.ListN.{length, drop}
use Rattle.uf2_receiver.specs.Receiver.{lent, world}
use Rattle.uf2_batch.specs.Batch.{arrivals_of, batch_of}
use Rattle.uf2_batch.specs.Parts.{Knows}
use Rattle.uf2_batch.proofs.Laws.{Stays, end_from}
use Rattle.uf2_batch.proofs.take_all.Given as goal

abbrev pub invariant-loop-i : goal.invariant-loop-i
invariant-loop-i l =
    (length l.results ≡ length l.initial.results)
    × Stays l.settings (lent l.initial.flash l.initial.seen l.initial.sectors l.initial.main l.initial.xip) l.first.right l.first.good (lent l.flash l.seen l.sectors l.main l.xip)
    × Knows l.settings (length l.flash) l.kept
    × (end_from l.n l.settings (world l.next (lent l.flash l.seen l.sectors l.main l.xip)) l.accepted l.results l.i (arrivals_of (l.n - l.i) (drop (l.i * 512) l.arrivals)) ≡ batch_of l.settings (world l.initial.next (lent l.initial.flash l.initial.seen l.initial.sectors l.initial.main l.initial.xip)) l.arrivals l.initial.results)
