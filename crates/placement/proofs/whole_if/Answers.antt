use borrow.Author.Rules.{rules}
use Rattle.placement.proofs.whole_if.Goals as goal

pub returns-then-yes : goal.returns-then-yes
returns-then-yes c = record { value = simp c.if-yes.true; low = search rules }
