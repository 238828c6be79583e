use mathlib.Core.Path.{◌≡◌, ap, ◌∙◌}
use Prim.Native.Nat.{ℕ}
use Rattle.std.specs.Prelude.{Ok, Some}
use Rattle.uf2_tags.specs.declared.one_tag.Tag.{Tag}
use Rattle.uf2_tags.specs.Tag.{Answer}
use Rattle.tagsapi.specs.Calls.{tag_bytes}
use Rattle.tagsapi.proofs.Laws.{tag_told}
use Rattle.tagsapi.proofs.tell.Goals as goal

pub returns : goal.returns
returns c =
    let known = c in
    let start = known in
    let t = known.in-Ok-Some.t in
    let written = c.write.ensures ∙ ap (λ (n : ℕ). tag_bytes t.kind t.start n t.next) known.from.ensures in
    let found : start.args.answer ≡ Ok (Some t) = rw (known.in-Ok-Some.is, rw known.in-Ok-Some.is at known.in-Ok-Some.field-0-is) in
    tag_told start.args.tag.now _ start.args.answer t written found (known.from-n.ensures ∙ known.number.ensures)
