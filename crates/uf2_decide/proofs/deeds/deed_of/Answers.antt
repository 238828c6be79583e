use Rattle.uf2_decide.proofs.deeds.deed_of.Goals as goal

pub returns-in-Page : goal.returns-in-Page
returns-in-Page c = rw c.in-Page.is c.page_deed.ensures
