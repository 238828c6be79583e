use mathlib.Core.Path.{◌∙◌}
use native.Mathlib.Omega.{arith}
use Rattle.uf2_tags.proofs.room.Laws.{place_test_lem, stands_place, stands_none, stands_tag}
use Rattle.uf2_tags.proofs.room.stands_at.Goals as goal

pub returns-then-bad_place : goal.returns-then-bad_place
returns-then-bad_place c = stands_place _ _ (place_test_lem _ c.first_place.ensures c.bad_place.ensures c.if-bad_place.true)

pub returns-then-end-at : goal.returns-then-end-at
returns-then-end-at c = stands_none _ _ (place_test_lem _ c.first_place.ensures c.bad_place.ensures c.if-bad_place.false) (omega arith)

pub returns : goal.returns
returns c =
    c.tag_in.ensures
    ∙ (rw c.room_end-end.ensures.value (stands_tag _ _ (place_test_lem _ c.first_place.ensures c.bad_place.ensures c.if-bad_place.false) (omega arith)))
