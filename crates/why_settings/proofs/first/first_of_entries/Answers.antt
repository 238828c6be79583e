use Rattle.std.proofs.Common.{sym, ◌∙◌}
use Rattle.why_settings.proofs.Laws.{each_hit}
use Rattle.why_settings.proofs.first.first_of_entries.Goals as goal

pub returns-in-Some : goal.returns-in-Some
returns-in-Some c = sym (each_hit _ _ _ 7 _ c.loop-rule-test.true c.loop-rule.invariant (sym c.first_of_rule.ensures ∙ c.in-Some.is))
