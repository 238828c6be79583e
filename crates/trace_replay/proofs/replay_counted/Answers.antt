use Rattle.trace_replay.proofs.Laws.{run_whole}
use Rattle.trace_replay.proofs.replay_counted.Goals as goal

pub returns : goal.returns
returns c =
    let ran = c in
    let cleared = ran in
    run_whole _ _ _ _ cleared.clear_maps.ensures.0 cleared.clear_maps.ensures.1 ran.run.ensures
