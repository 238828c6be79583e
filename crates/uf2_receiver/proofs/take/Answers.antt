use mathlib.Core.Path.{ap, ◌∙◌}
use Rattle.laws.specs.Numbered.{numbered}
use Rattle.arrival.specs.Arrive.{outcome_number}
use Rattle.uf2_receiver.proofs.KnownLaws.{known_is}
use Rattle.uf2_receiver.proofs.take.Goals as goal

pub returns : goal.returns
returns c =
    let d = c in
    let r = d in
    d.take_known.ensures
    ∙ ap (numbered outcome_number) (known_is _ _ _ (r.known_of-known.ensures.value, r.known_of-known.ensures.low))
