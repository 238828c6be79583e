use native.Mathlib.Omega.{arith}
use lib.ListN.{length-append}
use Rattle.text.specs.Lines.{counts_line}
use Rattle.text.proofs.Laws.{grown_none, grown_more, grown_counts, decimal_short}
use Rattle.text.proofs.lines.counts_line.Goals as goal

pub returns : goal.returns
unfolding counts_line
returns c =
    let n = c in
    let s = n in
    let e = s in
    let p = e in
    let q = p in
    let named = grown_more _ _ _ (grown_none _) (q.put-a.ensures.value, q.put-a.ensures.out_after) in
    let told = grown_more _ _ _ (grown_more _ _ _ named (p.put-b.ensures.value, p.put-b.ensures.out_after)) (e.put_decimal-c.ensures.value, e.put_decimal-c.ensures.out_after) in
    let x = q.args in
    let g = grown_more _ _ _ (grown_more _ _ _ (grown_more _ _ _ told (s.put-d.ensures.value, s.put-d.ensures.out_after)) (n.put_decimal-e.ensures.value, n.put_decimal-e.ensures.out_after)) (c.put.ensures.value, c.put.ensures.out_after) in
    let both = grown_counts _ _ g (simp length-append (omega (arith, c, q.requires, decimal_short x.total, decimal_short x.seen))) in
    record { value = both.0; out_after = both.1.0; prefix_len = both.1.1 }
