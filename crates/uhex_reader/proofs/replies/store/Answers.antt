use mathlib.Core.Path.{◌≡◌}
use lib.ListN.{length, take}
use lib.Seq.{length-take-le, take-length}
use native.Mathlib.Omega.{arith}
use Rattle.uhex_reader.proofs.replies.Laws.{stored_by}
use Rattle.uhex_reader.proofs.replies.store.Goals as goal

pub returns : goal.returns
returns c =
    let d = c.args.data.now in
    let n = c.args.rec.len in
    let m : length (take n d) ≡ n = length-take-le n d (omega arith) in
    let t : take (length (take n d)) (take n d) ≡ take n d = take-length (take n d) in
    let s = c.store_at-answer.ensures in
    stored_by _ _ d _ _ _ _ _ (rw m at s.value) (rw (t, m) at s.image) c.moving.ensures
