use Rattle.uf2_checks.proofs.family.room_in.Goals as goal

pub returns-in-MainRam : goal.returns-in-MainRam
returns-in-MainRam c = record { value = rw c.in-MainRam.is c.whole_if.ensures.value; low = c.whole_if.ensures.low }

pub returns-in-XipRam : goal.returns-in-XipRam
returns-in-XipRam c = record { value = rw c.in-XipRam.is c.whole_if-in-XipRam.ensures.value; low = c.whole_if-in-XipRam.ensures.low }
