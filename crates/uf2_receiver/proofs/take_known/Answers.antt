use mathlib.Core.Path.{ap}
use Rattle.laws.specs.Numbered.{numbered}
use Rattle.arrival.specs.Arrive.{outcome_number}
use Rattle.uf2_receiver.proofs.Laws.{performed_taken}
use Rattle.uf2_receiver.proofs.take_known.Goals as goal

pub returns : goal.returns
returns c = ap (numbered outcome_number) (performed_taken _ _ _ _ c.accept_known-planned.ensures c.perform.ensures)
