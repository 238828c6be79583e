use mathlib.Core.Path.{sym, ◌∙◌}
use borrow.Author.Tests.{not-true, not-false}
use Rattle.uf2_decide.proofs.deeds.page_deed.Goals as goal

pub returns-then-not-same_kind : goal.returns-then-not-same_kind
returns-then-not-same_kind c = let e = sym c.same_kind.ensures ∙ not-true _ c.if-not-same_kind.true-raw in rw e

pub returns-then-stands_at : goal.returns-then-stands_at
returns-then-stands_at c = let e = sym c.same_kind.ensures ∙ not-false _ c.if-not-same_kind.false-raw in let f = sym c.stands_at.ensures ∙ c.if-stands_at.true in rw (e, f)

pub returns : goal.returns
returns c = let e = sym c.same_kind.ensures ∙ not-false _ c.if-not-same_kind.false-raw in let f = sym c.stands_at.ensures ∙ c.if-stands_at.false in rw (e, f)
