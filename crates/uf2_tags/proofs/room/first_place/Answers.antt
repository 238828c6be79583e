use mathlib.Core.Path.{ap}
use Prim.Native.Nat.{ℕ, ◌+◌}
use Rattle.uf2_tags.specs.Room.{first_place}
use Rattle.uf2_tags.proofs.room.first_place.Goals as goal

pub returns : goal.returns
unfolding first_place
returns c = ap (λ (n : ℕ). 32 + n) c.field.ensures
