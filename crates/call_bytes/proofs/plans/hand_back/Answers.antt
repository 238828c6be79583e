use Rattle.call_bytes.proofs.plans.hand_back.Goals as goal

pub returns : goal.returns
returns c =
    record {
      value = c.result.ensures;
      kept = rw (← c.is_acceptance-accepted.ensures) c.keep.ensures;
      told = c.tell.ensures;
    }
