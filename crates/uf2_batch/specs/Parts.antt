-- What is promised of one arrival of many, and what is known before it. Assumes nothing.
use Rattle.std.specs.Prelude.{ℕ, ◌≡◌, Bool, length}
use Rattle.partitions.specs.Settings.{good_settings}
use Rattle.partitions.specs.declared.Settings.{Settings}
use Rattle.placement.specs.Place.{StartsLow}
use Rattle.transfer.specs.Transfer.{number_of}
use Rattle.arrival.specs.Arrive.{Lent, World, Outcome, right_lengths}
use Rattle.uf2_receiver.specs.Receiver.{world}
use Rattle.transfer_layout.specs.Results.{result_of, is_acceptance}
use Rattle.uf2_batch.specs.Opening.{lens_of}
use Rattle.uf2_known.specs.Judged.{rooms_at}
use Rattle.uf2_known.specs.declared.judged.FamilyRooms.{FamilyRooms}
use Rattle.uf2_batch.specs.declared.Turn.{Turn}

-- what is kept of a family is what the settings say of it with a flash of len bytes
pub record Knows (s : Settings) (len : ℕ) (b : FamilyRooms) : Type 0 where
  pub said : b ≡ rooms_at s len b.family
  pub low : StartsLow b.rooms.flash

-- row 1's word, for whole arrivals, and row 2's, of what is lent
abbrev pub Judges : Settings → Lent → Bool → Bool → Type 0
Judges s h right good =
    (right ≡ right_lengths 512 (lens_of h) (length h.seen) (length h.sectors)) × (good ≡ good_settings s (length h.flash))

-- what one arrival of many comes to: what it leaves, its result, and whether its block was accepted
pub record TurnEnd : Type 0 where
  pub world : World
  pub result : ℕ
  pub accepted : Bool

-- what is returned, with the buffers as they are left
abbrev pub turn_left : Turn → Lent → TurnEnd
turn_left r h = record { world = world r.transfer h; result = r.result; accepted = r.accepted }

-- of an arrival that comes to o
abbrev pub turn_of : Outcome → TurnEnd
turn_of o =
    record {
      world = o.world;
      result = result_of (number_of o.answer) o.discarded;
      accepted = is_acceptance (number_of o.answer);
    }
