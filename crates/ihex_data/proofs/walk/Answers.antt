use Rattle.ihex_data.proofs.Walked.{going_first, going_next, going_stop, going_last}
use Rattle.laws.proofs.Numbered.{answer_is}
use borrow.Author.Rules.{rules}
use Rattle.ihex_data.proofs.walk.Goals as goal

pub loop-i-init : goal.loop-i-init
loop-i-init c = rw (c.fresh.ensures, c.fresh-2.ensures) (going_first _ _ _ _)

pub returns-in-Err : goal.returns-in-Err
returns-in-Err c =
    let a = c.args in
    let w = c.loop-i in
    rw c.first_or.ensures
    (going_stop a.out.now a.place.at a.place.kind a.text.now w.invariant c.loop-i-test.true c.line_end-e.ensures.value c.put_line.ensures.value c.in-Err.is c.put_line.ensures.lines)

pub loop-i-preserved : goal.loop-i-preserved
loop-i-preserved c =
    let a = c.args in
    let w = c.loop-i in
    going_next a.out.now a.place.at a.place.kind a.text.now w.invariant c.loop-i-test.true c.line_end-e.ensures.value c.put_line.ensures.value c.in-Ok.is c.put_line.ensures.lines (search rules)

pub returns : goal.returns
returns c =
    let a = c.args in
    rw c.first_or-2.ensures
    (going_last a.out.now a.place.at a.place.kind a.text.now c.loop-i.invariant c.loop-i-test.false (rw c.is_some.ensures at (answer_is c.close.ensures)))
