use mathlib.Core.Path.{sym, ap, ◌∙◌}
use borrow.Author.Tests.{not-true, not-false}
use Rattle.laws.specs.Numbered.{numbered}
use Rattle.laws.proofs.Numbered.{answer_is}
use Rattle.placement.specs.Place.{found_at, place_answer_number}
use Rattle.placement.proofs.Laws.{ask_length, ask_settings, ask_place, found_or}
use Rattle.placement.proofs.ask.Goals as goal

pub returns-then-not-right_length : goal.returns-then-not-right_length
returns-then-not-right_length c = ap (numbered place_answer_number) (sym (ask_length _ _ _ (sym c.right_length.ensures ∙ not-true _ c.if-not-right_length.true-raw)))

pub returns-then-not-good : goal.returns-then-not-good
returns-then-not-good c =
    let l = sym c.right_length.ensures ∙ not-false _ c.if-not-right_length.false-raw in
    ap (numbered place_answer_number) (sym (ask_settings _ _ _ l (sym c.good.ensures ∙ not-true _ c.if-not-good.true-raw)))

pub returns : goal.returns
returns c =
    let l = sym c.right_length.ensures ∙ not-false _ c.if-not-right_length.false-raw in
    let g = sym c.good.ensures ∙ not-false _ c.if-not-good.false-raw in
    ap (numbered place_answer_number)
    (c.ok_or.ensures.value ∙ found_or _ ∙ ap found_at (answer_is c.find.ensures.result_value) ∙ sym (ask_place _ _ _ l g))
