use Prim.Native.Nat.{ℕ}
use mathlib.Core.Path.{◌≡◌, sym, ap, ◌∙◌}
use native.Mathlib.Omega.{arith}
use borrow.Author.Tests.{not-true, not-false}
use Rattle.laws.proofs.Laws.{any_zero, any_more}
use Rattle.partitions.specs.Settings.{is_a, entry_at}
use Rattle.partitions.proofs.validity.Rising.{apart_none, rising_more, wrong_hit}
use Rattle.partitions.proofs.Laws.{wrong_alone, wrong_link, right_entry, link_up, link_to_b, link_none, link_right}
use borrow.Author.Rules.{rules}
use Rattle.partitions.proofs.validity.any_bad.Goals as goal

pub loop-k-init : goal.loop-k-init
loop-k-init c = (search rules, any_zero _, λ h. apart_none _ _)

pub returns-then-alone_bad : goal.returns-then-alone_bad
returns-then-alone_bad c =
    sym
    (wrong_hit _ _ _ _ c.loop-k-test.true
    (wrong_alone _ _ _ (sym c.alone_bad.ensures ∙ c.if-alone_bad.true)))

pub returns-then-k-j : goal.returns-then-k-j
returns-then-k-j c =
    sym
    (wrong_hit _ _ _ _ c.loop-k-test.true
    (wrong_link _ _ _ (link_up _ _ (sym c.unowned.ensures ∙ c.if-unowned.false) (omega (arith, c.target-j.ensures)))))

pub returns-then-not-is_a : goal.returns-then-not-is_a
returns-then-not-is_a c =
    let d = c in
    let x = d.args in
    let t = ap (λ (j : ℕ). is_a (entry_at x.table j)) d.target-j.ensures in
    sym
    (wrong_hit _ _ _ _ d.loop-k-test.true
    (wrong_link _ _ _
    (link_to_b _ _ (sym d.unowned.ensures ∙ d.if-unowned.false) (sym t ∙ sym c.is_a.ensures ∙ not-true _ c.if-not-is_a.true-raw))))

pub loop-k-preserved : goal.loop-k-preserved
loop-k-preserved c =
    let d = c in
    let l = d.loop-k in
    let x = d.args in
    let t = ap (λ (j : ℕ). is_a (entry_at x.table j)) d.target-j.ensures in (
      search rules,
      any_more _ _ l.invariant.1
          (right_entry _ _ _ (sym d.alone_bad.ensures ∙ d.if-alone_bad.false)
          (link_right _ _ (omega (arith, d.target-j.ensures)) (sym t ∙ sym c.is_a.ensures ∙ not-false _ c.if-not-is_a.false-raw))),
      rising_more _ _ _ _ l.invariant.2,
    )

pub loop-k-preserved-then-unowned : goal.loop-k-preserved-then-unowned
loop-k-preserved-then-unowned c =
    let l = c.loop-k in (
      search rules,
      any_more _ _ l.invariant.1
          (right_entry _ _ _ (sym c.alone_bad.ensures ∙ c.if-alone_bad.false)
          (link_none _ _ (sym c.unowned.ensures ∙ c.if-unowned.true))),
      rising_more _ _ _ _ l.invariant.2,
    )

pub returns-then-rising : goal.returns-then-rising
returns-then-rising c =
    let l = c.loop-k in
    let e : l.k ≡ c.args.count = omega arith in
    let w = rw e at l.invariant.1 in
    let s = rw e at (l.invariant.2 c.if-rising.true).none in
    rw (w, s)

pub returns : goal.returns
returns c =
    let l = c.loop-k in
    let e : l.k ≡ c.args.count = omega arith in
    let w = rw e at l.invariant.1 in
    rw w c.any_shares.ensures
