use native.Mathlib.Omega.{arith}
use Rattle.text.specs.HexAnswer.{failed_text}
use Rattle.text.proofs.Laws.{grown_none, grown_over, grown_more}
use Rattle.text.proofs.hex_answer.Laws.{start_short, text_short}
use Rattle.text.proofs.hex_answer.put_failed.Goals as goal

pub put_position-requires : goal.put_position-requires
put_position-requires c =
    let d = c in
    let n = d.number.result in
    let g = grown_more _ _ _ (grown_more _ _ _ (grown_none _) (d.put-a.ensures.value, d.put-a.ensures.out_after)) (d.put_decimal-b.ensures.value, d.put_decimal-b.ensures.out_after) in
    omega (arith, g (omega (arith, start_short n, d)), start_short n, d)

pub returns : goal.returns
unfolding failed_text
returns c =
    let d = c in
    let p = d in
    let n = d.number.result in
    let g = grown_more _ _ _ (grown_more _ _ _ (grown_none _) (p.put-a.ensures.value, p.put-a.ensures.out_after)) (d.put_decimal-b.ensures.value, d.put_decimal-b.ensures.out_after) in
    let both = grown_over _ _ _ g (c.put_position.ensures.value, c.put_position.ensures.out_after) (omega (arith, text_short n c.position.result, c)) in
    rw (← d.number.ensures, ← c.position.ensures) (record { value = both.0; out_after = both.1 })
