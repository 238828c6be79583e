use mathlib.Core.Path.{sym, ap, ◌∙◌}
use borrow.Author.Tests.{not-true, not-false}
use Rattle.std.specs.Prelude.{Ok}
use Rattle.transfer.proofs.Laws.{step_other, step_again, step_more}
use Rattle.transfer.proofs.go_on.Goals as goal

pub returns-then-not-same_head : goal.returns-then-not-same_head
returns-then-not-same_head c = ap Ok c.accept.ensures ∙ sym (step_other _ _ _ _ (sym c.same_head.ensures ∙ not-true _ c.if-not-same_head.true-raw))

pub returns-then-marked : goal.returns-then-marked
returns-then-marked c = sym (step_again _ _ _ _ (sym c.same_head.ensures ∙ not-false _ c.if-not-same_head.false-raw) c.if-marked.true)

pub returns : goal.returns
returns c = ap Ok c.accept-2.ensures ∙ sym (step_more _ _ _ _ (sym c.same_head.ensures ∙ not-false _ c.if-not-same_head.false-raw) c.if-marked.false)
