use Rattle.std.proofs.Common.{◌<◌, sym, arith}
use Rattle.laws.proofs.Laws.{any_hit}
use Rattle.placement.specs.Place.{used_count}
use Rattle.why_place.proofs.Laws.{takes_by}
use Rattle.why_place.proofs.any_takes.Goals as goal

pub returns-then-is_a-accepts_family : goal.returns-then-is_a-accepts_family
returns-then-is_a-accepts_family c =
    let a = c.args in
    let k = c.loop-k.k in
    let below : k < used_count a.settings.count = omega (arith, c.used_count-k-end.ensures) in
    sym (any_hit _ _ _ below (takes_by a.settings.table a.family k c.is_a.ensures c.accepts_family.ensures c.if-is_a-accepts_family.true))
