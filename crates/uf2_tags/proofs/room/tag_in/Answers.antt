use mathlib.Core.Path.{◌∙◌, ap}
use Prim.Native.Nat.{ℕ, ◌/◌, ◌%◌}
use native.Mathlib.Omega.{arith}
use Rattle.laws.proofs.Numbered.{answer_is}
use Rattle.uf2_tags.proofs.one_tag.Laws.{sized_same}
use Rattle.uf2_tags.proofs.room.Laws.{head_size, head_kind}
use Rattle.uf2_tags.proofs.room.tag_in.Goals as goal

pub returns : goal.returns
returns c =
    let head = c in
    let known = head in
    let start = known in
    let b = start.args.block.now in
    let at = start.args.at in
    let low = known.type_inv.block at in
    answer_is c.tag_sized.ensures
    ∙ sized_same at _ (ap (λ (n : ℕ). n % 256) head.field-head.ensures ∙ head_size b at (omega arith) (omega (arith, low)))
    (ap (λ (n : ℕ). n / 256) head.field-head.ensures ∙ head_kind b at (omega arith) (omega (arith, low)))
