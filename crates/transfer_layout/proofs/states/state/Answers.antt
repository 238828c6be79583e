use native.Mathlib.Omega.{arith}
use borrow.Author.Tests.{eq-eqb, ne_eqb, lt-ltb, le-ltb}
use Rattle.transfer_layout.specs.States.{state_of}
use Rattle.transfer_layout.proofs.states.state.Goals as goal

pub returns-then-tag-eq0 : goal.returns-then-tag-eq0
unfolding state_of
returns-then-tag-eq0 c = simp (eq-eqb _ _ c.if-tag-eq0.true)

pub returns-then-kind-gt2 : goal.returns-then-kind-gt2
unfolding state_of
returns-then-kind-gt2 c =
    let b = c in
    simp (ne_eqb _ _ b.if-tag-eq0.false, lt-ltb 2 b.args.kind (omega arith)) c.none.ensures

pub returns-then-tag-eq1 : goal.returns-then-tag-eq1
unfolding state_of
returns-then-tag-eq1 c =
    let b = c in
    simp (ne_eqb _ _ b.if-tag-eq0.false, le-ltb 2 b.args.kind (omega arith), eq-eqb _ _ c.if-tag-eq1.true)

pub returns-then-tag-eq2 : goal.returns-then-tag-eq2
unfolding state_of
returns-then-tag-eq2 c =
    let b = c in
    simp (ne_eqb _ _ b.if-tag-eq0.false, le-ltb 2 b.args.kind (omega arith), ne_eqb _ _ c.if-tag-eq1.false, eq-eqb _ _ c.if-tag-eq2.true)

pub returns : goal.returns
unfolding state_of
returns c =
    let third = c in
    let b = third in
    simp (ne_eqb _ _ b.if-tag-eq0.false, le-ltb 2 b.args.kind (omega arith), ne_eqb _ _ third.if-tag-eq1.false, ne_eqb _ _ c.if-tag-eq2.false)
    c.none-2.ensures
