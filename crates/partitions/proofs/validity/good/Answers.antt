use mathlib.Core.Path.{sym, ap, ◌∙◌}
use mathlib.Core.Bool.{not}
use borrow.Author.Tests.{not-true, not-false}
use Rattle.partitions.proofs.Laws.{good_off, good_none, good_over, good_rest}
use Rattle.partitions.proofs.validity.good.Goals as goal

pub returns-then-not-is_enabled : goal.returns-then-not-is_enabled
returns-then-not-is_enabled c = sym (good_off _ _ (sym c.is_enabled.ensures ∙ not-true _ c.if-not-is_enabled.true-raw))

pub returns-then-count-eq0 : goal.returns-then-count-eq0
returns-then-count-eq0 c = sym (good_none _ _ (sym c.is_enabled.ensures ∙ not-false _ c.if-not-is_enabled.false-raw) c.if-count-eq0.true)

pub returns-then-count-gt-ENTRIES : goal.returns-then-count-gt-ENTRIES
returns-then-count-gt-ENTRIES c = sym (good_over _ _ c.if-count-gt-ENTRIES.true)

pub returns : goal.returns
returns c =
    let b = c in
    let e = sym b.is_enabled.ensures ∙ not-false _ b.if-not-is_enabled.false-raw in
    ap not c.any_bad.ensures ∙ sym (good_rest _ _ e b.if-count-gt-ENTRIES.false)
