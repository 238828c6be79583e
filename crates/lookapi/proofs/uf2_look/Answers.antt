use Rattle.laws.proofs.Numbered.{answer_is}
use Rattle.call_bytes.proofs.Laws.{look_ran}
use Rattle.lookapi.proofs.uf2_look.Goals as goal

pub returns : goal.returns
returns c = look_ran _ _ _ _ c.read_settings-s.ensures c.read_transfer-t.ensures (answer_is c.look-p.ensures) c.result.ensures
