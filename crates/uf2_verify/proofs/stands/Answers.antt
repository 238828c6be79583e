use mathlib.Core.Path.{ap, ◌∙◌}
use Rattle.laws.specs.Numbered.{numbered}
use Rattle.laws.proofs.Numbered.{answer_is}
use Rattle.uf2_verify.specs.Stands.{stand_number}
use Rattle.uf2_verify.proofs.Laws.{stand_is}
use Rattle.uf2_verify.proofs.stands.Goals as goal

pub returns : goal.returns
returns c =
    let k = c.known_of-known.ensures in
    ap (numbered stand_number) (answer_is c.stands_known.ensures ∙ stand_is _ _ _ k.value k.low)
