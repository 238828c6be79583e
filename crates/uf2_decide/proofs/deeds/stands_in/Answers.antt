use mathlib.Core.Path.{sym, ◌∙◌}
use borrow.Author.Tests.{not-true, not-false}
use Rattle.uf2_decide.proofs.deeds.Laws.{stands_bare, stands_bad, stands_good}
use Rattle.uf2_decide.proofs.deeds.stands_in.Goals as goal

pub returns-then-not-has_region : goal.returns-then-not-has_region
returns-then-not-has_region c = stands_bare _ _ _ _ (sym c.has_region.ensures ∙ not-true _ c.if-not-has_region.true-raw)

pub returns-then-not-good : goal.returns-then-not-good
returns-then-not-good c = stands_bad _ _ _ _ (sym c.has_region.ensures ∙ not-false _ c.if-not-has_region.false-raw) c.read_region-region.ensures c.field-address.ensures (sym c.good.ensures ∙ not-true _ c.if-not-good.true-raw)

pub returns : goal.returns
returns c = stands_good _ _ _ _ (sym c.has_region.ensures ∙ not-false _ c.if-not-has_region.false-raw) c.read_region-region.ensures c.field-address.ensures (sym c.good.ensures ∙ not-false _ c.if-not-good.false-raw) c.stands.ensures
