use mathlib.Core.Path.{sym, ◌∙◌}
use Rattle.hex_digits.proofs.decoding.FirstLaws.{first_none}
use Rattle.hex_digits.proofs.decoding.judge.Goals as goal

pub returns-then-good : goal.returns-then-good
returns-then-good c =
    let d = c in
    record { value = first_none _ _ (sym d.decode-good.ensures.value ∙ c.if-good.true); bytes = d.decode-good.ensures.bytes }

pub returns : goal.returns
returns c = record { value = c.first_bad.ensures; bytes = c.decode-good.ensures.bytes }
