use mathlib.Core.Path.{sym, ap, ◌∙◌}
use borrow.Author.Tests.{not-true, not-false}
use Rattle.laws.specs.Numbered.{numbered}
use Rattle.uf2_known.specs.Verdict.{decision_number}
use Rattle.uf2_decide.proofs.Laws.{judge_lengths, judge_settings, judge_state, judge_screened}
use Rattle.uf2_decide.proofs.judge.Goals as goal

pub returns-then-not-known : goal.returns-then-not-known
returns-then-not-known c = ap (numbered decision_number) (judge_lengths _ _ _ _ (not-true _ c.if-not-known.true))

pub returns-then-not-known-2 : goal.returns-then-not-known-2
returns-then-not-known-2 c = ap (numbered decision_number) (judge_settings _ _ _ _ (not-false _ c.if-not-known.false) (not-true _ c.if-not-known-2.true))

pub returns-then-not-sound : goal.returns-then-not-sound
returns-then-not-sound c =
    let second = c in
    let first = second in
    ap (numbered decision_number) (judge_state _ _ _ _ (not-false _ first.if-not-known.false) (not-false _ second.if-not-known-2.false) (sym c.sound.ensures ∙ not-true _ c.if-not-sound.true-raw))

pub returns : goal.returns
returns c =
    let third = c in
    let second = third in
    let first = second in
    let sound = sym third.sound.ensures ∙ not-false _ third.if-not-sound.false-raw in
    ap (numbered decision_number) (judge_screened _ _ _ _ (not-false _ first.if-not-known.false) (not-false _ second.if-not-known-2.false) sound c.screened.ensures)
