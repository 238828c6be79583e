use Rattle.laws.proofs.Numbered.{answer_is}
use Rattle.standapi.proofs.Laws.{stood}
use Rattle.standapi.proofs.uf2_stands.Goals as goal

pub returns : goal.returns
returns c =
    let k = c.known_from-known.ensures in
    stood _ _ _ k.value k.low (answer_is c.stands_known-told.ensures) c.number.ensures
