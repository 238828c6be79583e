-- The room of a record's line (02, L11). Assumes nothing.
use Rattle.std.specs.Prelude.{ℕ, ◌+◌, ◌*◌, Bool, ◌&&◌, nat_le}

-- a record has at most 32 bytes of data; its line has 12 characters and two for each of them, and stands within the room, from an index on
abbrev pub has_room : ℕ → ℕ → ℕ → Bool
has_room room at n = nat_le n 32 && nat_le (at + (12 + 2 * n)) room
