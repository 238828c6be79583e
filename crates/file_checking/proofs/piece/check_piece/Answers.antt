use mathlib.Core.Path.{refl}
use Rattle.file_checking.proofs.piece.Steps.{screen_piece, screened_is, maps_are}
use Rattle.file_checking.proofs.piece.check_piece.Goals as goal

pub returns-in-Err : goal.returns-in-Err
returns-in-Err c =
    let e = screen_piece _ _ _ _ c.bytes-arrival.ensures c.new.ensures c.screen-screening.ensures c.in-Err.is in
    record { value = screened_is _ _ _ _ e refl; left = maps_are _ _ _ _ e refl }

pub returns-in-Ok : goal.returns-in-Ok
returns-in-Ok c =
    let e = screen_piece _ _ _ _ c.bytes-arrival.ensures c.new.ensures c.screen-screening.ensures c.in-Ok.is in
    let t = c.settle.ensures in
    record { value = screened_is _ _ _ _ e t.value; left = maps_are _ _ _ _ e t.left }
