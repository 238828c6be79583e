use Rattle.call_bytes.proofs.Laws.{batch_ran}
use Rattle.capi.proofs.uf2_take_all.Goals as goal

pub returns : goal.returns
returns c = batch_ran _ _ _ _ _ c.read_settings-s.ensures c.read_transfer-t.ensures c.take_all-b.ensures c.keep.ensures
