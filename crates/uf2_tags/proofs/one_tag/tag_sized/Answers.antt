use mathlib.Core.Path.{ap, ◌∙◌}
use native.Mathlib.Omega.{arith}
use Rattle.laws.specs.Numbered.{numbered}
use Rattle.std.specs.Prelude.{Ok, Some}
use Rattle.uf2_tags.specs.declared.one_tag.Tag.{Tag}
use Rattle.uf2_tags.specs.Tag.{Answer, answer_number}
use Rattle.uf2_tags.proofs.one_tag.Laws.{sized_end, sized_typed, sized_small, sized_past, sized_tag}
use Rattle.uf2_tags.proofs.one_tag.tag_sized.Goals as goal

pub returns-then-kind-eq0 : goal.returns-then-kind-eq0
returns-then-kind-eq0 c = ap (numbered answer_number) (sized_end _ _ _ _ (omega arith) (omega arith))

pub returns-then-size-eq0 : goal.returns-then-size-eq0
returns-then-size-eq0 c = ap (numbered answer_number) (sized_typed _ _ _ _ (omega arith) (omega arith))

pub returns-then-size-lt4 : goal.returns-then-size-lt4
returns-then-size-lt4 c = ap (numbered answer_number) (sized_small _ _ _ _ (omega arith) (omega arith))

pub returns-then-end-at : goal.returns-then-end-at
returns-then-end-at c = ap (numbered answer_number) (sized_past _ _ _ _ (omega arith) (omega arith) (omega arith))

pub returns : goal.returns
returns c =
    let tagged : Tag → Answer = λ t. Ok (Some t) in
    ap (numbered answer_number) (ap tagged c.made.ensures ∙ sized_tag _ _ _ _ (omega arith) (omega arith) (omega arith))
