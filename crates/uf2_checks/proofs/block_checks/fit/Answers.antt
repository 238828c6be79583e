use Rattle.uf2_checks.proofs.block_checks.fit.Goals as goal

pub fits_place-requires : goal.fits_place-requires
fits_place-requires c = let a = c in record { start_bound = a.requires.start_bound; above = rw c.in-Some.is at a.requires.above }

pub returns-in-None : goal.returns-in-None
returns-in-None c = rw c.in-None.is c.stray.ensures

pub returns-in-Some : goal.returns-in-Some
returns-in-Some c = rw c.in-Some.is c.fits_place.ensures
