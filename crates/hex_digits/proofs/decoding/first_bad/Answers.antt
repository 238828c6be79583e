use native.Mathlib.Omega.{arith}
use Rattle.hex_digits.specs.Values.{value_in}
use Rattle.hex_digits.proofs.decoding.FirstLaws.{first_here, first_next, first_end}
use Rattle.hex_digits.proofs.decoding.first_bad.Goals as goal

pub loop-i-init : goal.loop-i-init
loop-i-init c = omega arith

pub overflow_cast-value : goal.overflow_cast-value
overflow_cast-value c = omega (arith, c.type_inv.chars c.loop-i.i)

pub bounds-table-chars : goal.bounds-table-chars
bounds-table-chars c = omega (arith, c.type_inv.chars c.loop-i.i)

pub returns-then-value-ge16 : goal.returns-then-value-ge16
returns-then-value-ge16 c =
    let n = c in
    let s = n.args in
    let byte = c.type_inv.chars n.loop-i.i in
    omega (arith, n.loop-i.invariant, first_here s.table.now s.chars.now n.loop-i.i (omega (arith, byte)) c.loop-i-test.true c.if-value-ge16.true)

pub loop-i-preserved : goal.loop-i-preserved
loop-i-preserved c =
    let n = c in
    let s = n.args in
    let byte = c.type_inv.chars n.loop-i.i in
    omega (arith, n.loop-i.invariant, first_next s.table.now s.chars.now n.loop-i.i (omega (arith, byte)) c.loop-i-test.true c.if-value-ge16.false)

pub returns : goal.returns
returns c =
    let s = c.args in
    omega (arith, c.loop-i.invariant, first_end (value_in s.table.now) s.chars.now c.loop-i.i c.loop-i-test.false)
