use Rattle.std.proofs.Common.{rules}
use Rattle.laws.proofs.Numbered.{answer_is}
use Rattle.why.proofs.Laws.{placed_mapped}
use Rattle.why.proofs.place_source.Goals as goal

pub returns : goal.returns
returns c = placed_mapped _ _ _ c.place_row.ensures c.in_ok-place_row.was (answer_is c.locate.ensures) _ _ (λ x z p. search rules) c.map_err.ensures.cases
