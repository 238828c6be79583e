use Rattle.laws.proofs.Numbered.{answer_is}
use Rattle.uf2_tags.proofs.step_at.Goals as goal

pub returns : goal.returns
returns c = simp (c.place_after-next.ensures, answer_is c.tag_at-answer.ensures)
