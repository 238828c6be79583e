use Rattle.std.proofs.Common.{arith}
use Rattle.ihex_record.proofs.Endings.{text_empty, text_whole, text_alone, text_lf, text_crlf}
use Rattle.ihex_record.proofs.text_len.Goals as goal

pub returns-then-n-eq0 : goal.returns-then-n-eq0
returns-then-n-eq0 c = record { value = text_empty _ c.if-n-eq0.true; within = omega arith }

pub returns-then-line-n-ne10 : goal.returns-then-line-n-ne10
returns-then-line-n-ne10 c = record { value = text_whole _ c.if-line-n-ne10.true; within = omega arith }

pub returns-then-n-eq1 : goal.returns-then-n-eq1
returns-then-n-eq1 c = record { value = text_alone _ c.if-line-n-ne10.false c.if-n-eq1.true; within = omega arith }

pub returns-then-line-n-ne13 : goal.returns-then-line-n-ne13
returns-then-line-n-ne13 c = record { value = text_lf _ c.if-line-n-ne10.false (omega arith) c.if-line-n-ne13.true; within = omega arith }

pub returns : goal.returns
returns c = record { value = text_crlf _ c.if-line-n-ne10.false (omega arith) c.if-line-n-ne13.false; within = omega arith }
