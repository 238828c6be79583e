use mathlib.Core.Path.{sym, ap, ◌∙◌}
use lib.ListN.{length}
use lib.Seq.{take-length}
use native.Mathlib.Omega.{arith}
use Rattle.laws.specs.Over.{over}
use Rattle.laws.proofs.OverLaws.{put_over}
use Rattle.uhex_reader.proofs.replies.Laws.{at_inside}
use Rattle.uhex_reader.proofs.replies.store_at.Goals as goal

pub returns-clause-image : goal.returns-clause-image
returns-clause-image c =
    let at = c.args.at in
    let b = c.args.bytes.now in
    let img = c.args.image.now in
    let e = c.copy_from_slice.ensures.after in
    (at_inside at (length b) b img _ (omega arith) (put_over at (length b) img _ (ap length e) ∙ ap (over img at) (e ∙ sym (take-length b)))).1
