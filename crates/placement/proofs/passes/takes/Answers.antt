use mathlib.Core.Path.{sym, ◌∙◌}
use mathlib.Core.Bool.{◌&&◌, and-true, and-false}
use borrow.Author.Tests.{not-true, not-false}
use Rattle.partitions.specs.Settings.{is_a, accepts}
use Rattle.placement.specs.Passes.{pass_takes}
use Rattle.placement.proofs.passes.takes.Goals as goal

pub returns-then-not-allows : goal.returns-then-not-allows
unfolding pass_takes
returns-then-not-allows c =
    let x = c.args in
    let z = sym c.allows.ensures ∙ not-true _ c.if-not-allows.true-raw in
    simp (z, and-false (is_a x.e && accepts x.e x.w.family))

pub returns : goal.returns
unfolding pass_takes
returns c =
    let d = c in
    let x = d.args in
    let z = sym d.allows.ensures ∙ not-false _ d.if-not-allows.false-raw in
    simp (z, c.is_a.ensures, c.accepts_family.ensures, and-true (is_a x.e && accepts x.e x.w.family))
