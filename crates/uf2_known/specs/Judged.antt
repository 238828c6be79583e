-- What is the same for many arrivals. Assumes nothing.
use Rattle.std.specs.Prelude.{ℕ, cond, eqb}
use Rattle.partitions.specs.Settings.{good_settings}
use Rattle.partitions.specs.declared.Settings.{Settings}
use Rattle.uf2_checks.specs.Screen.{rooms_of}
use Rattle.uf2_checks.specs.declared.Lengths.{Lengths}
use Rattle.arrival.specs.Arrive.{right_lengths}
use Rattle.uf2_known.specs.declared.judged.FamilyRooms.{FamilyRooms}
use Rattle.uf2_known.specs.declared.judged.Judgement.{Judgement}

-- family f, and what the settings say of it with a flash of len bytes
abbrev pub rooms_at : Settings → ℕ → ℕ → FamilyRooms
rooms_at s len f = record { family = f; rooms = rooms_of s len f }

-- row 1's word for whole arrivals, buffers of lengths n, a seen map of m bytes and a sector map of k, row 2's word, and what the settings say
-- of family f
abbrev pub judged_of : Settings → Lengths → ℕ → ℕ → ℕ → Judgement
judged_of s n m k f =
    record { right = right_lengths 512 n m k; good = good_settings s n.flash; kept = rooms_at s n.flash f }

-- after an arrival of a family, for one of family f
abbrev pub rooms_next : FamilyRooms → Settings → ℕ → ℕ → FamilyRooms
rooms_next b s len f = cond (eqb b.family f) b (rooms_at s len f)
