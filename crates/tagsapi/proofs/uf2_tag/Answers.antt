use mathlib.Core.Path.{sym, ◌∙◌}
use Rattle.laws.proofs.Numbered.{answer_is}
use Rattle.tagsapi.proofs.Laws.{tag_low, tag_short, tag_call_lem}
use borrow.Author.Rules.{rules}
use Rattle.tagsapi.proofs.uf2_tag.Goals as goal

pub returns-then-tag-ne-TAG : goal.returns-then-tag-ne-TAG
returns-then-tag-ne-TAG c = tag_short _ _ _ c.if-tag-ne-TAG.true

pub tell-requires : goal.tell-requires
tell-requires c = record { tag_len = search rules; low = λ t e. tag_low _ _ t (sym (answer_is c.tag_at.ensures) ∙ e) }

pub returns : goal.returns
returns c = tag_call_lem _ _ _ c.if-tag-ne-TAG.false (answer_is c.tag_at.ensures) c.tell.ensures
