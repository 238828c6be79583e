-- An image, settings and lent buffers that meet the hypotheses of Delivery.antt, so that they are not empty, and what the theorem says of them (02, L1).
-- Proved in proofs/Instance.antt. Assumes nothing.
use Rattle.std.specs.Prelude.{ℕ, true, List, [], ◌∷◌, ◌++◌, map, replicate}
use Rattle.partitions.specs.Settings.{family_arm_s, arm_only}
use Rattle.partitions.specs.declared.Settings.{Settings}
use Rattle.transfer.specs.declared.State.TheVariants.{Idle}
use Rattle.arrival.specs.Arrive.{World}
use Rattle.arrival.specs.Lists.{receive_all}
use Rattle.demand.specs.Demand.{File}
use Rattle.file_claims.specs.Delivery.{made_file, IsMade, Deliverable, Arrived}

-- two pages, from the second of the window on, and an output with room for both and 100 bytes more
abbrev pub image : List ℕ
image = replicate 256 1 ++ replicate 256 2

abbrev pub start : ℕ
start = 0x10000100

abbrev pub output : List ℕ
output = replicate 1124 7

-- Arm alone, no table, absolute allowed
abbrev pub plain : Settings
plain = arm_only true

-- an Idle transfer, a flash of 65,536 bytes, which is the family's place, and no RAM
abbrev pub board : World
board =
    record {
      transfer = Idle;
      seen = replicate 16384 9;
      held = record { flash = replicate 65536 7; sectors = replicate 1024 9; main = []; xip = [] };
    }

abbrev pub made : File
made = made_file image family_arm_s start output

-- the file is made, and can be delivered
unfoldable pub MetByTwoPages : Type 0
MetByTwoPages = IsMade image family_arm_s start output × Deliverable plain board image family_arm_s start 0 65536

-- its second block, its first, and the second again
abbrev pub sent : List (List ℕ)
sent = map made.block (1 ∷ 0 ∷ 1 ∷ [])

-- the transfer is Done, and the image stands from byte 256 of the flash on
unfoldable pub TwoPagesArrive : Type 0
TwoPagesArrive = Arrived (receive_all plain board sent) image 0 start made
