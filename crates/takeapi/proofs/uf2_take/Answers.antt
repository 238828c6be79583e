use mathlib.Core.Path.{refl, ◌∙◌}
use Rattle.laws.proofs.Numbered.{answer_is}
use Rattle.uf2_receiver.proofs.KnownLaws.{known_is}
use Rattle.call_bytes.proofs.Laws.{take_ran}
use Rattle.takeapi.proofs.uf2_take.Goals as goal

pub returns : goal.returns
returns c =
    let k = c.known_from-known.ensures in
    take_ran _ _ _ _ refl c.read_transfer-t.ensures (answer_is c.take_known-r.ensures ∙ known_is _ _ _ (k.value, k.low)) c.is_acceptance.ensures c.keep.ensures c.result.ensures
