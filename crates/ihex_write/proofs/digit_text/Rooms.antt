-- What a record's line that has room is. Assumes nothing.
use Rattle.std.proofs.Common.{◌≡◌, ℕ, ◌+◌, ◌*◌, ◌≤◌, Bool, true, leb, sym, ◌∙◌, leb-true}
use Rattle.laws.proofs.Tests.{and_left, and_right}
use Rattle.ihex_write.specs.Room.{has_room}

module _ (room at n : ℕ) where
  -- what a line that has room is
  module _ {b : Bool} (e : b ≡ has_room room at n) (y : b ≡ true) where
    pub few : n ≤ 32
    few = leb-true n 32 (and_left (leb n 32) (leb (at + (12 + 2 * n)) room) (sym e ∙ y))

    pub within : at + (12 + 2 * n) ≤ room
    within = leb-true (at + (12 + 2 * n)) room (and_right (leb n 32) (leb (at + (12 + 2 * n)) room) (sym e ∙ y))
