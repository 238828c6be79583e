use Rattle.std.proofs.Common.{◌≡◌, None}
use Rattle.why_settings.specs.Faults.{each, condition_for, first_in}
use Rattle.why_settings.proofs.first.first_of_entries.Given as goal

abbrev pub invariant-loop-rule : goal.invariant-loop-rule
invariant-loop-rule l = first_in l.settings l.flash_len (each (condition_for l.settings.count) l.rule) ≡ None
