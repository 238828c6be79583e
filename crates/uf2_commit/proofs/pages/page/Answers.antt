use Rattle.uf2_commit.proofs.pages.Laws.{sector_beside}
use Rattle.uf2_commit.proofs.pages.page.Goals as goal

pub returns-in-Flash : goal.returns-in-Flash
returns-in-Flash c = rw c.in-Flash.is (sector_beside _ _ _ _ c.flash_page.ensures)

pub returns-in-MainRam : goal.returns-in-MainRam
returns-in-MainRam c = rw (c.in-MainRam.is, c.store.ensures)

pub returns-in-XipRam : goal.returns-in-XipRam
returns-in-XipRam c = rw (c.in-XipRam.is, c.store-in-XipRam.ensures)
