use mathlib.Core.Path.{sym, ◌∙◌}
use native.Mathlib.Omega.{arith}
use Rattle.uf2_tags.proofs.room.Laws.{room_md5, room_whole}
use Rattle.uf2_tags.proofs.room.room_end.Goals as goal

pub returns-then-has_region : goal.returns-then-has_region
returns-then-has_region c = record { value = room_md5 _ (sym c.has_region.ensures ∙ c.if-has_region.true); within = omega arith }

pub returns : goal.returns
returns c = record { value = room_whole _ (sym c.has_region.ensures ∙ c.if-has_region.false); within = omega arith }
