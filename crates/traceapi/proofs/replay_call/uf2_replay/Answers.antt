use Rattle.traceapi.proofs.ReplayLaws.{replay_ran}
use Rattle.traceapi.proofs.replay_call.uf2_replay.Goals as goal

pub returns : goal.returns
returns c =
    let wrote = c in
    let ran = wrote in
    replay_ran _ _ _ _ _ ran.read_settings-s.ensures ran.replay-r.ensures wrote.write_transfer.ensures c.put_stop.ensures c.number.ensures
