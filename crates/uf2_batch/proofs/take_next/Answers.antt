use Rattle.laws.proofs.Numbered.{answer_is}
use Rattle.uf2_batch.proofs.Laws.{turn_knows, turn_known, turn_told}
use Rattle.uf2_batch.proofs.take_next.Goals as goal

pub returns : goal.returns
returns c =
    let knows = turn_knows _ _ c.field-family.result c.requires.knows c.next-kept.ensures.value c.next-kept.ensures.low in
    let took = turn_known _ _ _ _ c.requires.judges c.requires.whole c.field-family.ensures c.requires.knows c.next-kept.ensures.value knows.low (answer_is c.take_known-r.ensures) in
    record {
      xip_value = turn_told c.next-kept.result took c.result.ensures c.is_acceptance.ensures;
      knows = knows;
    }
