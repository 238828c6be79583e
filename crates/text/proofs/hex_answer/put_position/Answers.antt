use Rattle.text.proofs.hex_answer.Laws.{position_none, position_some}
use Rattle.text.proofs.hex_answer.put_position.Goals as goal

pub returns-then-position-eq0 : goal.returns-then-position-eq0
returns-then-position-eq0 c =
    let both = position_none _ _ _ c.if-position-eq0.true in
    record { value = both.0; out_after = both.1 }

pub returns : goal.returns
returns c =
    let p = c in
    let i = p in
    let both = position_some _ _ _ i.if-position-eq0.false i.requires (p.put-b.ensures.value, p.put-b.ensures.out_after) (c.put_decimal.ensures.value, c.put_decimal.ensures.out_after) in
    record { value = both.0; out_after = both.1 }
