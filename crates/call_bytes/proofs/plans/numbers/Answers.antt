use mathlib.Core.Path.{refl, ap, sym, ◌∙◌}
use Rattle.call_bytes.specs.Calls.{plan_bytes}
use Rattle.call_bytes.proofs.plans.Laws.{words_program, words_erase}
use Rattle.call_bytes.proofs.plans.numbers.Goals as goal

pub returns-in-Nothing : goal.returns-in-Nothing
returns-in-Nothing c = rw (c.number.ensures, c.in-Nothing.is) refl

pub returns-in-Program : goal.returns-in-Program
returns-in-Program c = words_program _ c.number-in-Program.ensures c.low.ensures c.low-in-Program.ensures ∙ sym (ap plan_bytes c.in-Program.is)

pub returns-in-EraseProgram : goal.returns-in-EraseProgram
returns-in-EraseProgram c = words_erase _ _ c.number-in-EraseProgram.ensures c.low-in-EraseProgram.ensures c.low-in-EraseProgram-2.ensures ∙ sym (ap plan_bytes c.in-EraseProgram.is)
