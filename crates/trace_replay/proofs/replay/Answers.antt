use Rattle.trace_replay.proofs.Laws.{outcome_alone}
use Rattle.trace_replay.proofs.replay.Goals as goal

pub returns : goal.returns
returns c = outcome_alone _ _ c.replay_counted.ensures
