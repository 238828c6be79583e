use mathlib.Core.Path.{ap, ◌∙◌}
use Rattle.toolsapi.proofs.uf2_make_check.Goals as goal

pub returns : goal.returns
returns c = c.from.ensures ∙ c.number.ensures ∙ ap (λ p. p.1) c.check.ensures
