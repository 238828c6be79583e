use Rattle.std.proofs.Common.{◌≡◌, ◌+◌, ◌*◌, ap, ◌∙◌, arith}
use Rattle.md5_digest.specs.Md5.{steps_of}
use Rattle.md5_digest.proofs.Laws.{steps_next}
use Rattle.md5_digest.proofs.round.Goals as goal

pub loop-i-preserved : goal.loop-i-preserved
loop-i-preserved g c = λ start e. steps_next _ _ _ _ _ (c.loop-i.invariant start e) c.step-t.ensures

pub returns : goal.returns
returns g c = λ start e.
    let l = c.loop-i in
    let all : l.i ≡ 16 * g.row.R + 16 = omega arith in
    l.invariant start e ∙ ap (steps_of c.args.m.now start) all
