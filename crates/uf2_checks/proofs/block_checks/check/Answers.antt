use Rattle.uf2_checks.proofs.Laws.{check_comment, check_window}
use Rattle.uf2_checks.proofs.block_checks.Laws.{window_above}
use Rattle.uf2_checks.proofs.block_checks.check.Goals as goal

pub returns-then-b : goal.returns-then-b
returns-then-b c = check_comment _ _ _ _ c.if-b.true c.note_kind-noted.ensures c.room_in-room.ensures.value c.check_note.ensures

pub check_data-requires : goal.check_data-requires
check_data-requires c = record { starts_low = c.room_in-place.ensures.low; above = window_above _ _ c.window_of-window.ensures }

pub returns : goal.returns
returns c =
    let d = c in
    check_window _ _ _ _ d.if-b.false d.window_of-window.ensures c.window_kind-kind.ensures c.room_in-place.ensures.value c.check_data.ensures
