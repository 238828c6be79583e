use mathlib.Core.Path.{refl, ◌∙◌}
use native.Mathlib.Omega.{arith}
use Rattle.laws.specs.Sets.{any}
use Rattle.hex_digits.specs.Digits.{digit_of}
use Rattle.hex_digits.proofs.Table.{Bytes, tells, told_first, told_decoded}
use Rattle.hex_digits.proofs.judge.Goals as goal

pub returns : goal.returns
unfolding digit_of any
returns c =
    let d = c in
    let n = d in
    let bytes : Bytes n.args.chars.now = λ i. omega (arith, n.type_inv.chars i) in
    let told = tells _ refl in
    record { value = d.judge.ensures.value ∙ told_first _ told _ bytes; bytes = d.judge.ensures.bytes ∙ told_decoded _ told _ _ bytes }
