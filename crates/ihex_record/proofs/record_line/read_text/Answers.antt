use Rattle.std.proofs.Common.{◌∙◌, arith}
use Rattle.ihex_record.proofs.Checks.{is_empty, is_no_colon, is_bad_shape}
use Rattle.ihex_record.proofs.record_line.read_text.Goals as goal

pub returns-then-n-eq0 : goal.returns-then-n-eq0
returns-then-n-eq0 c = c.refusal.ensures ∙ is_empty _ c.if-n-eq0.true

pub returns-then-t-ne58 : goal.returns-then-t-ne58
returns-then-t-ne58 c = c.refusal-then-t-ne58.ensures ∙ is_no_colon _ c.if-t-ne58.true

pub returns-then-n : goal.returns-then-n
returns-then-n c = c.refusal-then-n.ensures ∙ is_bad_shape _ c.if-n-eq0.false c.if-t-ne58.false c.if-n.true

pub read_digits-requires : goal.read_digits-requires
read_digits-requires c = (omega arith, c.if-t-ne58.false, c.if-n.false)

pub returns : goal.returns
returns c = c.read_digits.ensures
