-- What the settings and the lengths say, in the shape of the code's returns. Assumes nothing.
use mathlib.Core.Path.{◌≡◌}
use mathlib.Core.Bool.{Bool}
use mathlib.Core.List.{List}
use Prim.Native.Nat.{ℕ}
use lib.ListN.{length}
use Rattle.uf2_block.specs.Block.{field_at}
use Rattle.partitions.specs.Settings.{good_settings}
use Rattle.partitions.specs.declared.Settings.{Settings}
use Rattle.uf2_checks.specs.Screen.{rooms_of}
use Rattle.uf2_checks.specs.declared.Rooms.{Rooms}
use Rattle.uf2_checks.specs.declared.Lengths.{Lengths}
use Rattle.arrival.specs.Arrive.{right_lengths}
use Rattle.uf2_known.specs.Verdict.{known_of}

-- call by call
pub all_known : (s : Settings) (n : Lengths) (m k : ℕ) (a : List ℕ) {right good : Bool} {f : ℕ} {r : Rooms} → right ≡ right_lengths (length a) n m k → good ≡ good_settings s n.flash → f ≡ field_at a 28 → r ≡ rooms_of s n.flash f → record { right = right; good = good; rooms = r } ≡ known_of s n m k a
all_known s n m k a hl hg hf hr = rw (hl, hg, hr, hf)
