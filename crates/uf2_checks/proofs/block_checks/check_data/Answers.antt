use Rattle.uf2_checks.specs.Screen.{data_found}
use Rattle.uf2_checks.proofs.block_checks.check_data.Goals as goal

pub fit-requires : goal.fit-requires
fit-requires c = let a = c in record { start_bound = rw c.in-Some.is at a.requires.starts_low; above = a.requires.above }

pub returns-in-None : goal.returns-in-None
unfolding data_found
returns-in-None c = rw c.in-None.is

pub returns-in-Some : goal.returns-in-Some
unfolding data_found
returns-in-Some c = rw c.in-Some.is c.fit.ensures
