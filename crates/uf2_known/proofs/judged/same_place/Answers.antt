use mathlib.Core.Path.{sym}
use Rattle.uf2_known.proofs.judged.same_place.Goals as goal

pub returns-in-Some : goal.returns-in-Some
returns-in-Some c = sym c.in-Some.is
