use Rattle.flash_plan.proofs.Laws.{sector_erased, sector_new}
use Rattle.flash_plan.proofs.flash_page.Goals as goal

pub returns-then-erased : goal.returns-then-erased
returns-then-erased c = sector_erased _ _ c.marked-erased.ensures c.mark.ensures (c.if-erased.true)

pub returns : goal.returns
returns c = sector_new _ _ c.marked-erased.ensures c.mark.ensures (c.if-erased.false)
