use Rattle.std.proofs.Common.{◌≡◌, ℕ, false, not, sym, ap, ◌∙◌, subst, arith, rules}
use Rattle.laws.specs.Sets.{any}
use Rattle.laws.proofs.Laws.{any_zero, any_more, least_is, least_none}
use Rattle.trace_counts.specs.Counts.{is_missing}
use Rattle.trace_counts.proofs.gaps.first_missing.Goals as goal

pub loop-k-init : goal.loop-k-init
loop-k-init c = any_zero _

pub returns-then-not-marked : goal.returns-then-not-marked
returns-then-not-marked c =
    sym (least_is (is_missing c.args.map.now) _ _ c.loop-k-test.true c.loop-k.invariant (ap not (sym c.marked.ensures) ∙ search rules))

pub loop-k-preserved : goal.loop-k-preserved
loop-k-preserved c =
    any_more (is_missing c.args.map.now) _ c.loop-k.invariant (ap not (sym c.marked.ensures) ∙ search rules)

pub returns : goal.returns
returns c =
    sym (least_none (is_missing c.args.map.now) _ (subst (λ (n : ℕ). any n (is_missing c.args.map.now) ≡ false) (omega arith) c.loop-k.invariant))
