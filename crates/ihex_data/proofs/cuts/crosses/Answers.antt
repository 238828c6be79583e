use mathlib.Core.Path.{refl}
use Rattle.ihex_data.proofs.cuts.crosses.Goals as goal

pub returns : goal.returns
returns c = refl
