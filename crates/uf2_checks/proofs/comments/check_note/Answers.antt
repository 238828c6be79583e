use Rattle.uf2_checks.specs.Screen.{note_found}
use Rattle.uf2_checks.proofs.comments.check_note.Goals as goal

pub returns-in-None : goal.returns-in-None
unfolding note_found
returns-in-None c = rw c.in-None.is

pub returns-in-Some : goal.returns-in-Some
unfolding note_found
returns-in-Some c = rw c.in-Some.is c.note.ensures
