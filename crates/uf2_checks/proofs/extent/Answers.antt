use Rattle.uf2_checks.proofs.extent.Goals as goal

pub returns-in-Flash : goal.returns-in-Flash
returns-in-Flash c = rw c.in-Flash.is

pub returns-in-MainRam : goal.returns-in-MainRam
returns-in-MainRam c = rw c.in-MainRam.is

pub returns-in-XipRam : goal.returns-in-XipRam
returns-in-XipRam c = rw c.in-XipRam.is
