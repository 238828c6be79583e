use mathlib.Core.Path.{◌≡◌, sym, ◌∙◌}
use native.Mathlib.Omega.{arith}
use Rattle.laws.proofs.Laws.{any_zero, any_more, any_hit}
use Rattle.partitions.specs.Settings.{overlap_at}
use Rattle.partitions.specs.Parts.{shares_below}
use borrow.Author.Rules.{rules}
use Rattle.partitions.proofs.validity.any_shares.Goals as goal

pub loop-k-init : goal.loop-k-init
loop-k-init c = (search rules, any_zero _)

pub loop-j-init : goal.loop-j-init
loop-j-init c = (search rules, any_zero _)

pub returns-then-sectors_overlap : goal.returns-then-sectors_overlap
unfolding shares_below overlap_at
returns-then-sectors_overlap c =
    sym
    (any_hit _ _ _ c.loop-k-test.true
    (any_hit _ _ _ c.loop-j-test.true (sym c.sectors_overlap.ensures ∙ c.if-sectors_overlap.true)))

pub loop-j-preserved : goal.loop-j-preserved
unfolding overlap_at
loop-j-preserved c = (search rules, any_more _ _ c.loop-j.invariant.1 (sym c.sectors_overlap.ensures ∙ c.if-sectors_overlap.false))

pub loop-k-preserved : goal.loop-k-preserved
unfolding shares_below
loop-k-preserved c =
    let e : c.loop-j.j ≡ c.loop-k.k = omega arith in
    (search rules, any_more _ _ c.loop-k.invariant.1 (rw e at c.loop-j.invariant.1))

pub returns : goal.returns
returns c = let e : c.loop-k.k ≡ c.args.count = omega arith in sym (rw e at c.loop-k.invariant.1)
