use Rattle.laws.proofs.OverLaws.{set_over}
use Rattle.ihex_write.proofs.Line.{high_byte, low_byte, line_put}
use Rattle.ihex_write.proofs.Digits.{check_sum}
use Rattle.std.proofs.Common.{ℕ, rules, arith, refl, length-set}
use Rattle.ihex_write.proofs.put_line.Goals as goal

pub returns : goal.returns
returns c =
    let a = c.args in
    let high = high_byte c.to_be_bytes.result a.address (omega arith) c.to_be_bytes.ensures in
    let low = low_byte c.to_be_bytes.result a.address c.to_be_bytes.ensures in
    let sum = rw (high, low) at c.sum.ensures in
    let head = rw (high, low) at c.put_bytes.ensures in
    line_put a.kind a.address a.«data».now a.out.now a.at _ c.requires.room
    (check_sum _ _ _ _ _ _ sum c.sum-2.ensures refl (omega arith) (search rules))
    (set_over _ _ _ (omega arith))
    head c.put_bytes-2.ensures c.put_byte.ensures (set_over _ _ _ (omega (arith, length-set {A = ℕ})))
