use native.Mathlib.Omega.{arith}
use lib.ListN.{length-append}
use Rattle.text.specs.HexAnswer.{hex_answer_line}
use Rattle.text.proofs.Laws.{grown_over, grown_more, grown_counts, pair_short, decimal_short}
use Rattle.text.proofs.hex_answer.Laws.{position_short}
use Rattle.text.proofs.hex_answer.hex_answer_line.Goals as goal

pub put_position-b-requires : goal.put_position-b-requires
put_position-b-requires c =
    let p = c in
    omega (arith, p.put_pair-a, pair_short p.args.index p.number.result)

pub returns : goal.returns
unfolding hex_answer_line
returns c =
    let q = c in
    let p = q in
    let x = p in
    let g = grown_over _ _ _ (λ l. (p.put_pair-a.ensures.value, p.put_pair-a.ensures.out_after)) (q.put_position-b.ensures.value, q.put_position-b.ensures.out_after) in
    let both = grown_counts _ _ (grown_more _ _ _ g (c.put.ensures.value, c.put.ensures.out_after)) (simp length-append (omega (arith, c, decimal_short x.args.index, decimal_short p.number.result, position_short q.position.result))) in
    rw (← p.number.ensures, ← q.position.ensures) (record { value = both.0; out_after = both.1.0; prefix_len = both.1.1 })
