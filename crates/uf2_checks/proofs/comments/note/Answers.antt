use mathlib.Core.Path.{sym, ◌∙◌}
use Rattle.uf2_checks.proofs.Laws.{noted_numbers, noted_passed}
use Rattle.uf2_checks.proofs.comments.note.Goals as goal

pub returns-then-bad : goal.returns-then-bad
returns-then-bad c = sym (noted_numbers _ _ _ (sym c.bad_numbers-bad.ensures ∙ c.if-bad.true))

pub returns : goal.returns
returns c = noted_passed _ _ _ (sym c.bad_numbers-bad.ensures ∙ c.if-bad.false) c.new-head.ensures
