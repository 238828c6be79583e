use mathlib.Core.Path.{sym, ap, ◌∙◌}
use Rattle.laws.specs.Numbered.{numbered}
use Rattle.laws.proofs.Numbered.{answer_is}
use Rattle.uf2_tags.specs.Tag.{answer_number}
use Rattle.uf2_tags.proofs.Search.{go_first, step_stop, step_on, step_less}
use Rattle.uf2_tags.proofs.find.Goals as goal

pub loop-m-init : goal.loop-m-init
loop-m-init c = rw c.first_place-at.ensures (go_first _ _)

pub returns-then-stops_at : goal.returns-then-stops_at
returns-then-stops_at c = ap (numbered answer_number) (step_stop _ _ _ c.loop-m.invariant _ (answer_is c.step_at-m.ensures) (sym c.stops_at.ensures ∙ c.if-stops_at.true))

pub loop-m-smaller : goal.loop-m-smaller
loop-m-smaller c = step_less _ _ _ c.loop-m.invariant _ (answer_is c.step_at-m.ensures) (sym c.stops_at.ensures ∙ c.if-stops_at.false)

pub loop-m-preserved : goal.loop-m-preserved
loop-m-preserved c = step_on _ _ _ c.loop-m.invariant _ (answer_is c.step_at-m.ensures) (sym c.stops_at.ensures ∙ c.if-stops_at.false)
