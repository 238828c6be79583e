use Rattle.ihex_write.proofs.filling.Filled.{put_pad, put_close}
use Rattle.ihex_write.specs.Fill.{missing, fill_lines}
use Rattle.ihex_write.specs.Put.{put_lines}
use Rattle.ihex_write.proofs.Lines.{put_past}
use Rattle.std.proofs.Common.{◌≡◌, ℕ, ◌+◌, ◌-◌, ◌*◌, ◌/◌, sym, ap, ◌∙◌, arith}
use Rattle.ihex_write.proofs.filling.put_fill.Goals as goal

pub returns-then-out-at : goal.returns-then-out-at
returns-then-out-at c =
    let a = c.args in
    sym (put_past a.out.now a.at (fill_lines (missing a.n)) (omega (arith, c.if-out-at.true)))

pub loop-k-preserved : goal.loop-k-preserved
loop-k-preserved c =
    let w = c.loop-k in
    put_pad w.out c.args.at w.k c.missing_after-m.result (omega arith) w.invariant c.put_filling.ensures

pub returns : goal.returns
returns c =
    let a = c.args in
    let w = c.loop-k in
    let m = c.missing_after-m.result in
    let pads = c.saturating_sub-pads.result / 64 in
    let all : w.k ≡ pads = omega arith in
    let left = rw all at w.invariant in
    put_close w.out (a.at + 64 * pads) (m - 64 * pads) (omega arith) left c.put_filling-2.ensures
    ∙ ap (λ (k : ℕ). put_lines a.out.now a.at (fill_lines k)) c.missing_after-m.ensures
