use Rattle.uf2_checks.proofs.block_kind.is_lent.Goals as goal

pub returns-in-MainRam : goal.returns-in-MainRam
returns-in-MainRam c = rw c.in-MainRam.is

pub returns-in-XipRam : goal.returns-in-XipRam
returns-in-XipRam c = rw c.in-XipRam.is
