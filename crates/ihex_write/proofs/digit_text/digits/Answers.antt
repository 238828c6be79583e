use Rattle.std.proofs.Common.{sym}
use Rattle.ihex_write.proofs.Digits.{text_one}
use Rattle.ihex_write.proofs.digit_text.digits.Goals as goal

pub returns : goal.returns
returns c = rw (c.digit.ensures, c.digit-2.ensures) (sym (text_one c.args.b))
