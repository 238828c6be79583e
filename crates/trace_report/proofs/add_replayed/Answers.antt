use Rattle.trace_report.proofs.adding.Adds.{replayed_is}
use Rattle.trace_report.proofs.add_replayed.Goals as goal

pub returns : goal.returns
returns c = replayed_is _ _ _ _ c.replay_counted-replayed.ensures c.before_stop.ensures c.with_tally-counted.ensures c.with_end.ensures
