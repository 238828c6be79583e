use mathlib.Core.Path.{refl, ap, ◌∙◌}
use native.Mathlib.Omega.{arith}
use lib.Seq.{take_all}
use Rattle.hex_digits.specs.Values.{all_by, value_in}
use Rattle.hex_digits.proofs.pairs.Values.{all_next}
use Rattle.hex_digits.proofs.decoding.all_digits.Goals as goal

pub loop-i-init : goal.loop-i-init
unfolding all_by
loop-i-init c = refl

pub overflow_cast-value : goal.overflow_cast-value
overflow_cast-value c = omega (arith, c.type_inv.chars c.loop-i.i)

pub bounds-table-chars : goal.bounds-table-chars
bounds-table-chars c = omega (arith, c.type_inv.chars c.loop-i.i)

pub loop-i-preserved : goal.loop-i-preserved
loop-i-preserved c =
    let s = c.args in
    let byte = c.type_inv.chars c.loop-i.i in
    all_next s.table.now s.chars.now c.loop-i.i c.loop-i.met c.loop-i-test.true refl (omega (arith, byte)) c.loop-i.invariant

pub returns : goal.returns
returns c =
    let s = c.args in
    c.loop-i.invariant ∙ ap (all_by (value_in s.table.now)) (take_all _ _ c.loop-i-test.false)
