use Rattle.uf2_known.proofs.judged.Laws.{next_made}
use Rattle.uf2_known.proofs.judged.next.Goals as goal

pub returns : goal.returns
returns c =
    let found = c.rooms_next-found in
    record {
      value = next_made _ _ _ _ c.same_place-flash.ensures found.ensures.value;
      low = λ low. rw c.same_place-flash.ensures (found.ensures.low low);
    }
