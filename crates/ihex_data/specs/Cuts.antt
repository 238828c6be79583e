-- Where the data of a plain file is cut (02, L11). Assumes nothing.
use Rattle.std.specs.Prelude.{ℕ, ◌-◌, ◌%◌, Bool, false, not, eqb, ltb, Option, Some, None}
use Rattle.ihex_data.specs.declared.cuts.Uppers.{Uppers}
use Rattle.ihex_data.specs.declared.cuts.Tally.{Tally}

abbrev pub tally : Option Uppers → ℕ → Tally
tally uppers len = record { uppers = uppers; len = len }

-- of the first piece and of the latest
abbrev pub uppers : ℕ → ℕ → Uppers
uppers first latest = record { first = first; latest = latest }

-- before the first piece
abbrev pub fresh_tally : Tally
fresh_tally = tally None 0

-- the upper half of the first piece, or u where there is none
abbrev pub first_of : Option Uppers → ℕ → ℕ
first_of None u = u
first_of (Some x) u = x.first

-- the latest piece has another upper half than u
abbrev pub differs : Option Uppers → ℕ → Bool
differs None u = false
differs (Some x) u = not (eqb x.latest u)

-- an 04 stands before a piece with the upper half u: "another stands only where that changes"; the first piece has the section's opening 04
abbrev pub changes : Tally → ℕ → Bool
changes t u = differs t.uppers u

-- from an address to the next multiple of 65,536
abbrev pub room_of : ℕ → ℕ
room_of a = 65536 - a % 65536

-- n bytes from an address on reach past it: "split only where the linear address crosses a multiple of 65,536"
abbrev pub crosses : ℕ → ℕ → Bool
crosses a n = ltb (room_of a) n
