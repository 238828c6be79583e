use mathlib.Core.Path.{sym}
use Prim.Native.Nat.{◌*◌}
use Rattle.hex_digits.specs.Values.{value_in}
use Rattle.hex_digits.proofs.pairs.Values.{all_parts}
use Rattle.hex_digits.proofs.decoding.FirstLaws.{rest}
use Rattle.hex_digits.proofs.decoding.decode.Goals as goal

pub returns : goal.returns
returns c =
    let p = c in
    let n = p in
    let s = n.args in
    let l = s.chars.now in
    let k = n.min-e.result in
    record { value = rw (p.pairs-good.ensures.value, c.all_digits.ensures, rest (2 * k) l, sym n.min-e.ensures) (all_parts (value_in s.table.now) (2 * k) l); bytes = p.pairs-good.ensures.bytes }
