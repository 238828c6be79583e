use mathlib.Core.Path.{sym, ◌∙◌}
use Rattle.laws.proofs.Numbered.{answer_is}
use Rattle.tagsapi.proofs.Laws.{find_low, find_short, find_call}
use borrow.Author.Rules.{rules}
use Rattle.tagsapi.proofs.uf2_tag_find.Goals as goal

pub returns-then-tag-ne-TAG : goal.returns-then-tag-ne-TAG
returns-then-tag-ne-TAG c = find_short _ _ _ c.if-tag-ne-TAG.true

pub tell-requires : goal.tell-requires
tell-requires c = record { tag_len = search rules; low = λ t e. find_low _ _ t (sym (answer_is c.find.ensures) ∙ e) }

pub returns : goal.returns
returns c = find_call _ _ _ c.if-tag-ne-TAG.false (answer_is c.find.ensures) c.tell.ensures
