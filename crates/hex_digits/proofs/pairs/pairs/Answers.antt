use mathlib.Core.Path.{◌≡◌, refl, ap, ◌∙◌}
use native.Mathlib.Omega.{arith}
use Prim.Native.Nat.{ℕ, ◌+◌, ◌*◌, ◌/◌, ◌<◌, min}
use lib.Bits.{bit_or}
use lib.ListN.{length, get_or, take}
use Rattle.hex_digits.specs.Values.{value_in, all_by}
use Rattle.hex_digits.proofs.pairs.Values.{value_at, all_next}
use Rattle.hex_digits.proofs.pairs.Stored.{begun_next, begun_all}
use Rattle.hex_digits.proofs.pairs.pairs.Goals as goal

pub loop-i-init : goal.loop-i-init
unfolding all_by
loop-i-init c = (refl, refl)

pub overflow_cast-high : goal.overflow_cast-high
overflow_cast-high c = omega (arith, c.type_inv.chars (2 * c.loop-i.i))

pub bounds-table-chars : goal.bounds-table-chars
bounds-table-chars c = omega (arith, c.type_inv.chars (2 * c.loop-i.i))

pub overflow_cast-low : goal.overflow_cast-low
overflow_cast-low c = omega (arith, c.type_inv.chars (2 * c.loop-i.i + 1))

pub bounds-table-chars-in-loop-i : goal.bounds-table-chars-in-loop-i
bounds-table-chars-in-loop-i c = omega (arith, c.type_inv.chars (2 * c.loop-i.i + 1))

pub loop-i-preserved : goal.loop-i-preserved
loop-i-preserved c =
    let n = c in
    let b = n.args in
    let t = b.table.now in
    let l = b.chars.now in
    let i = n.loop-i.i in
    let byte = c.type_inv.chars in
    let k : i < min (length l / 2) (length b.out.now) = omega arith in
    let h : get_or l (2 * i) 0 < 256 = omega (arith, byte (2 * i)) in
    let w : get_or l (2 * i + 1) 0 < 256 = omega (arith, byte (2 * i + 1)) in
    let high = all_next t l (2 * i) n.loop-i.found (omega arith) refl h n.loop-i.invariant.0 in
    let low = all_next t l (2 * i + 1) (bit_or n.loop-i.found (get_or t (get_or l (2 * i) 0) 0)) (omega arith) refl w high in
    let next : 2 * i + 1 + 1 ≡ 2 * (i + 1) = omega arith in (
      rw next at low,
      begun_next (value_in t) l b.out.now n.loop-i.out i k (value_at t _ h) (value_at t _ w) n.loop-i.invariant.1,
    )

pub returns : goal.returns
returns c =
    let n = c in
    let b = n.args in
    let e : n.loop-i.i ≡ n.min-room.result = omega arith in
    let k = e ∙ n.min-room.ensures in
    record { value = n.loop-i.invariant.0 ∙ ap (λ (j : ℕ). all_by (value_in b.table.now) (take (2 * j) b.chars.now)) k; bytes = n.loop-i.invariant.1 ∙ begun_all (value_in b.table.now) b.chars.now b.out.now n.loop-i.i k }
