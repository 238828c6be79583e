use Rattle.file_checking.proofs.Files.{number_missing, numbers_whole}
use Rattle.file_checking.proofs.whole.Goals as goal

pub returns-then-file-total : goal.returns-then-file-total
returns-then-file-total c = number_missing _ _ _ _ c.requires.counted c.requires.first c.if-file-total.true c.first_missing.ensures

pub returns : goal.returns
returns c = numbers_whole _ _ _ _ c.requires.counted c.requires.first c.if-file-total.false c.rooms_for-rooms.ensures.value c.guarded.ensures
