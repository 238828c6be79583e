use Rattle.uf2_batch.proofs.opening.judge_lent.Goals as goal

pub returns : goal.returns
returns c = record { value = c.judge.ensures.value; low = c.judge.ensures.low }
