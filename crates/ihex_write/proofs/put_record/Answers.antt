use Rattle.ihex_write.proofs.digit_text.Rooms.{few, within}
use Rattle.ihex_write.proofs.Line.{no_room, is_put}
use Rattle.ihex_write.proofs.put_record.Goals as goal

pub returns-then-not-has_room : goal.returns-then-not-has_room
returns-then-not-has_room c =
    let a = c.args in
    no_room a.out.now a.at a.kind a.address a.«data».now c.has_room.ensures c.if-not-has_room.true

pub put_line-requires : goal.put_line-requires
put_line-requires c =
    let e = c.has_room.ensures in
    let y = c.if-not-has_room.false in
    record { data_len_bound = few _ _ _ e y; room = within _ _ _ e y }

pub returns : goal.returns
returns c =
    let a = c.args in
    is_put a.out.now a.at a.kind a.address a.«data».now c.has_room.ensures (c.if-not-has_room.false) c.put_line.ensures
