use mathlib.Core.Path.{sym, ◌∙◌}
use Rattle.uf2_verify.proofs.compared.Goals as goal

pub returns-then-body_stands : goal.returns-then-body_stands
returns-then-body_stands c = let e = sym c.body_stands.ensures ∙ c.if-body_stands.true in rw e

pub returns : goal.returns
returns c = let e = sym c.body_stands.ensures ∙ c.if-body_stands.false in rw e
