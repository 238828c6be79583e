use mathlib.Core.Path.{sym, ap, ◌∙◌}
use Rattle.laws.specs.Numbered.{numbered}
use Rattle.laws.proofs.Numbered.{answer_is}
use Rattle.uf2_checks.specs.Screen.{screening_number}
use Rattle.uf2_checks.proofs.Laws.{refusal_header, screen_header, screen_found}
use Rattle.uf2_checks.proofs.block_checks.screen.Goals as goal

pub header_answer-requires : goal.header_answer-requires
header_answer-requires c = refusal_header c.read-header.result c.in_default.not-Ok

pub returns-in_default : goal.returns-in_default
returns-in_default c = ap (numbered screening_number) (screen_header _ _ _ _ (answer_is c.read-header.ensures) (c.header_answer.ensures _))

pub returns : goal.returns
returns c =
    let h = sym (answer_is c.read-header.ensures) ∙ c.in-Ok.is in
    ap (numbered screening_number) (c.check.ensures ∙ sym (screen_found _ _ _ _ _ h))
