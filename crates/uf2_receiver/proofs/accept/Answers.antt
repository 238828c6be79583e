use mathlib.Core.Path.{ap, ◌∙◌}
use Rattle.laws.specs.Numbered.{numbered}
use Rattle.flash_plan.specs.Plan.{accepting_number}
use Rattle.uf2_receiver.proofs.KnownLaws.{accept_is}
use Rattle.uf2_receiver.proofs.accept.Goals as goal

pub returns : goal.returns
returns c = ap (numbered accepting_number) (c.accept_known.ensures ∙ accept_is _ _ _ (c.known_of-known.ensures.value, c.known_of-known.ensures.low))
