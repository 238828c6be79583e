-- The lengths of what is lent. Assumes nothing.
use Rattle.std.specs.Prelude.{length}
use Rattle.uf2_checks.specs.declared.Lengths.{Lengths}
use Rattle.arrival.specs.Arrive.{Lent}

-- the lengths that row 1 asks for, but for the maps'
abbrev pub lens_of : Lent → Lengths
lens_of h = record { flash = length h.flash; main = length h.main; xip = length h.xip }
