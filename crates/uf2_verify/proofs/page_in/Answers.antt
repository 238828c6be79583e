use Rattle.uf2_verify.proofs.page_in.Goals as goal

pub returns-in-Flash : goal.returns-in-Flash
returns-in-Flash c = rw c.in-Flash.is c.page_stands.ensures

pub returns-in-MainRam : goal.returns-in-MainRam
returns-in-MainRam c = rw c.in-MainRam.is c.page_stands-in-MainRam.ensures

pub returns-in-XipRam : goal.returns-in-XipRam
returns-in-XipRam c = rw c.in-XipRam.is c.page_stands-in-XipRam.ensures
