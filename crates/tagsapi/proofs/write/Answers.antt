use mathlib.Core.Path.{◌∙◌}
use Rattle.tagsapi.proofs.Laws.{tag_put}
use Rattle.tagsapi.proofs.write.Goals as goal

pub returns : goal.returns
returns c =
    let fourth = c in
    let third = fourth in
    let second = third in
    let first = second in
    let start = first in
    fourth.put-4.ensures ∙ rw (third.put-3.ensures, second.put-2.ensures, first.put.ensures) (tag_put start.args.bytes.now _ _ _ _ start.requires)
