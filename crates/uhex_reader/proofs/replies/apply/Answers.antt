use mathlib.Core.Path.{sym, ◌∙◌}
use native.Mathlib.Omega.{arith}
use Rattle.uhex_reader.proofs.replies.Laws.{applied_by, line_fails, bounded_over, bounded_fits}
use Rattle.uhex_reader.proofs.replies.apply.Goals as goal

pub returns-then-rec-gt-MAX : goal.returns-then-rec-gt-MAX
returns-then-rec-gt-MAX c =
    let x = c.args in
    line_fails _ _ _ _ c.failing.ensures ∙ sym (bounded_over x.reader x.rec x.data x.end _ (omega arith))

pub returns : goal.returns
returns c =
    applied_by _ _ _ _ _ _ _ c.effect_of-effect.ensures c.perform.ensures
    ∙ sym (bounded_fits _ _ _ _ _ (omega arith))
