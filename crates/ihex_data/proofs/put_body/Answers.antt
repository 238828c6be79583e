use Rattle.ihex_data.proofs.Walked.{least_lines}
use Rattle.ihex_data.proofs.put_body.Goals as goal

pub returns : goal.returns
returns c =
    let a = c.args in
    let w = c.walk.ensures in
    record { value = w.body; most = w.most; lines = least_lines a.out.now a.at _ c.min.ensures w.lines }
