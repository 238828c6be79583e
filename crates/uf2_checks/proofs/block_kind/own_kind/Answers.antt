use mathlib.Core.Path.{sym}
use Rattle.uf2_checks.proofs.Laws.{own_taken, own_other}
use Rattle.uf2_checks.proofs.block_kind.own_kind.Goals as goal

pub returns-then-head-family : goal.returns-then-head-family
returns-then-head-family c =
    let d = c in
    let a = d.args in
    sym (own_taken a.lens a.head a.family a.total d.is_lent-lent.ensures c.if-head-family.true)

pub returns : goal.returns
returns c =
    let d = c in
    let a = d.args in
    sym (own_other a.lens a.head a.family a.total d.is_lent-lent.ensures c.if-head-family.false)
