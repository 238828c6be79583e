use Rattle.std.proofs.Common.{◌∙◌}
use Rattle.md5_digest.proofs.Laws.{shift_bounds, rotate_is, turned}
use Rattle.md5_digest.proofs.operation.Goals as goal

pub returns : goal.returns
returns c =
    let s = c in
    let a = s.args in
    let n = shift_bounds a.ns.now a.i s.requires.4 s.requires.0 in
    turned a.m.now a.ks.now a.ns.now a.i a.f a.p a.s s.requires.3 s.requires.4 c.word-w.ensures (c.rotate_left.ensures ∙ rotate_is _ _ n.0 n.1)
