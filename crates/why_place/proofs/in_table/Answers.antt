use Rattle.std.proofs.Common.{◌≡◌, arith}
use Rattle.laws.proofs.Tests.{clash}
use Rattle.why_place.proofs.Laws.{takes_pass, pass_some, spot_found}
use Rattle.why_place.proofs.in_table.Goals as goal

pub returns-in-Some : goal.returns-in-Some
returns-in-Some c =
    let a = c.args in
    let taken = pass_some a.settings a.family c.loop-pass.pass c.query-w.ensures c.first_taken.ensures c.in-Some.is in
    spot_found a.settings a.family c.loop-pass.pass _ c.loop-pass-test.true taken.0 c.loop-pass.invariant taken.1 taken.2

pub returns : goal.returns
returns c =
    let last : c.loop-pass.pass ≡ 4 = omega arith in
    clash _ (takes_pass _ _ c.requires) (rw last at c.loop-pass.invariant)
