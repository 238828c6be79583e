use Rattle.uf2_verify.proofs.body_stands.Goals as goal

pub returns-in-Page : goal.returns-in-Page
returns-in-Page c = rw c.in-Page.is c.page_in.ensures

pub returns-in-Note : goal.returns-in-Note
returns-in-Note c = rw c.in-Note.is
