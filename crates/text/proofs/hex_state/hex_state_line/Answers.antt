use native.Mathlib.Omega.{arith}
use lib.ListN.{length-append}
use Rattle.text.specs.HexState.{hex_state_line}
use Rattle.text.proofs.Laws.{grown_more, grown_counts, decimal_short}
use Rattle.text.proofs.hex_state.Laws.{state_short}
use Rattle.text.proofs.hex_state.hex_state_line.Goals as goal

pub returns : goal.returns
unfolding hex_state_line
returns c =
    let d = c in
    let p = d in
    let s = p in
    let f = s in
    let r = f.args.reader in
    let g = grown_more _ _ _ (grown_more _ _ _ (λ l. (s.put_reader_state-a.ensures.value, s.put_reader_state-a.ensures.out_after)) (p.put-b.ensures.value, p.put-b.ensures.out_after)) (d.put_decimal-c.ensures.value, d.put_decimal-c.ensures.out_after) in
    let both = grown_counts _ _ (grown_more _ _ _ g (c.put.ensures.value, c.put.ensures.out_after)) (simp length-append (omega (arith, c, decimal_short r.offset, state_short r.state))) in
    rw (← f.flag-v2.ensures, ← f.flag-v1.ensures) (record { value = both.0; out_after = both.1.0; prefix_len = both.1.1 })
