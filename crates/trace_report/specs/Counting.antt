-- What a replayed trace adds, as the code counts it: from the bytes that the records begin with. Assumes nothing.
use Rattle.std.specs.Prelude.{ℕ, ◌/◌, List, Ok, length, replicate}
use Rattle.partitions.specs.declared.Settings.{Settings}
use Rattle.arrival.specs.Arrive.{Lent, lent_of}
use Rattle.trace_counts.specs.declared.Report.{Report}
use Rattle.trace_counts.specs.Counts.{tally_to, with_tally, ended_of}
use Rattle.trace_replay.specs.Replay.{TraceOutcome, replay_of, before_stop}
use Rattle.trace_report.specs.Report.{FiguresOutcome, figures_outcome}

-- the records before the stop, in a tally from zero
unfoldable pub tallied_by : Report → List ℕ → TraceOutcome → Report
tallied_by r t o =
    let n = before_stop (length t / 513) o.stop in
    ended_of (with_tally r (tally_to (replicate 33 0) t n) n) o.world.transfer o.world.seen

-- what comes of a trace that is replayed, whatever the report
unfoldable pub replayed_by : Report → Settings → Lent → List ℕ → FiguresOutcome
replayed_by r s h t =
    let o = replay_of s h t in
    figures_outcome (Ok o.stop) (tallied_by r t o) (lent_of o.world)
