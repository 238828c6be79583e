use Rattle.std.proofs.Common.{◌≡◌, None}
use Rattle.why_settings.specs.Faults.{each, condition_at, first_in}
use Rattle.why_settings.proofs.first.first_of_rule.Given as goal

abbrev pub invariant-loop-k : goal.invariant-loop-k
invariant-loop-k l = first_in l.settings l.flash_len (each (condition_at l.settings.count l.rule) l.k) ≡ None
