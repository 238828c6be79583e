use Rattle.laws.proofs.Numbered.{answer_is}
use Rattle.uf2_checks.proofs.family.rooms_for.Goals as goal

pub returns : goal.returns
returns c = record { value = rw (answer_is c.find-flash.ensures.result_value, c.ram_family-ram.ensures); low = c.find-flash.ensures.low }
