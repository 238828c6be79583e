use Rattle.flash_plan.proofs.perform.Goals as goal

pub returns-in-Program : goal.returns-in-Program
returns-in-Program c = rw c.in-Program.is c.store.ensures

pub returns-in-EraseProgram : goal.returns-in-EraseProgram
returns-in-EraseProgram c = rw (c.in-EraseProgram.is, c.store-in-EraseProgram.ensures, c.erase.ensures)
