use native.Mathlib.Omega.{arith}
use lib.ListN.{length-append}
use Rattle.text.proofs.Laws.{grown_none, grown_more, decimal_short}
use Rattle.text.proofs.put_pair.Goals as goal

pub returns : goal.returns
returns c =
    let p = c in
    let d = p in
    let x = d.args in
    let g = grown_more _ _ _ (grown_more _ _ _ (grown_none _) (d.put_decimal-a.ensures.value, d.put_decimal-a.ensures.out_after)) (p.put-b.ensures.value, p.put-b.ensures.out_after) in
    let both = grown_more _ _ _ g (c.put_decimal.ensures.value, c.put_decimal.ensures.out_after) (simp length-append (omega (arith, c, decimal_short x.index, decimal_short x.answer))) in
    record { value = both.0; out_after = both.1 }
