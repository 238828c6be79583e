use mathlib.Core.Path.{sym, ap, ◌∙◌}
use borrow.Author.Tests.{not-true, not-false}
use Rattle.laws.specs.Numbered.{numbered}
use Rattle.trace_report.specs.Report.{outcome_number}
use Rattle.trace_report.proofs.adding.Adds.{add_bad, add_many, add_replayed}
use Rattle.trace_report.proofs.add.Goals as goal

pub returns-then-not-is_good : goal.returns-then-not-is_good
returns-then-not-is_good c = ap (numbered outcome_number) (add_bad _ _ _ _ (sym c.is_good.ensures ∙ not-true _ c.if-not-is_good.true-raw))

pub returns-then-not-has_room : goal.returns-then-not-has_room
returns-then-not-has_room c = ap (numbered outcome_number) (add_many _ _ _ _ (sym c.is_good.ensures ∙ not-false _ c.if-not-is_good.false-raw) (sym c.has_room.ensures ∙ not-true _ c.if-not-has_room.true-raw))

pub returns : goal.returns
returns c =
    let added = c in
    let room = added in
    ap (numbered outcome_number) (add_replayed _ _ _ _ (sym room.is_good.ensures ∙ not-false _ room.if-not-is_good.false-raw) (sym room.has_room.ensures ∙ not-false _ added.if-not-has_room.false-raw) added.add_replayed.ensures)
