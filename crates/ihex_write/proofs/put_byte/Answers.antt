use Rattle.laws.specs.Over.{over}
use Rattle.laws.proofs.OverLaws.{put_over}
use Rattle.ihex_record.proofs.Written.{length_text}
use Rattle.std.proofs.Common.{[], ◌∷◌, length, ap, ◌∙◌, arith}
use Rattle.ihex_write.proofs.put_byte.Goals as goal

pub returns : goal.returns
returns c =
    let a = c.args in
    let e = c.copy_from_slice.ensures.after ∙ c.digits.ensures in
    put_over a.at 2 a.out.now _ (omega (arith, ap length e, length_text (a.b ∷ []))) ∙ ap (over a.out.now a.at) e
