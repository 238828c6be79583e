use native.Mathlib.Omega.{arith}
use lib.ListN.{length-append}
use Rattle.text.specs.Lines.{answer_line}
use Rattle.text.proofs.Laws.{grown_more, grown_counts, decimal_short}
use Rattle.text.proofs.lines.answer_line.Goals as goal

pub returns : goal.returns
unfolding answer_line
returns c =
    let p = c in
    let f = p in
    let x = f.args in
    let both = grown_counts _ _ (grown_more _ _ _ (λ l. (p.put_pair-a.ensures.value, p.put_pair-a.ensures.out_after)) (c.put.ensures.value, c.put.ensures.out_after)) (simp length-append (omega (arith, c, decimal_short x.index, decimal_short x.answer))) in
    rw (← f.flag.ensures) (record { value = both.0; out_after = both.1.0; prefix_len = both.1.1 })
