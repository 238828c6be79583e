-- Power lost at any point, then the file again, whole. Proved in proofs/Cut.antt. Assumes nothing.
use Rattle.std.specs.Prelude.{ℕ, ◌+◌, ◌/◌, ◌≤◌, ◌<◌, ◌≡◌, Bool, true, false, List, ltb, length, get_or}
use Rattle.laws.specs.Sets.{Set}
use Rattle.partitions.specs.declared.Settings.{Settings}
use Rattle.memory.specs.Flash.{payload_of}
use Rattle.transfer.specs.declared.Kind.{Kind}
use Rattle.transfer.specs.declared.Kind.TheVariants.{Flash}
use Rattle.transfer.specs.declared.State.TheVariants.{Idle}
use Rattle.arrival.specs.Arrive.{World, buffer_of}
use Rattle.arrival.specs.Facts.{LengthsKept}
use Rattle.arrival.specs.Lists.{receive_all}
use Rattle.demand.specs.Demand.{File, ValidFile, Sent, is_data, seen_of, how_many, storage_of, held_by, touched_by, changed_by, Plain}

-- all blocks of a file
abbrev pub all_of : File → Set
all_of F k = ltb k F.total

-- v is the board when power is back, with a fresh transfer; w as it was before the file was first sent. In the sectors (of a RAM file: the
-- pages) that the file touches anything may stand, half erased and half programmed too, and in both maps; every other byte is as it was, and so is
-- every length.
pub record Cut (s : Settings) (F : File) (v w : World) : Type 0 where
  pub back : v.transfer ≡ Idle
  pub before : w.transfer ≡ Idle
  pub lengths : LengthsKept v w
  pub others : (u : Kind) (j : ℕ) → changed_by s w F (all_of F) u j ≡ false → get_or (buffer_of u v.held) j 0 ≡ get_or (buffer_of u w.held) j 0

-- the file whole, in any order and with repeats and foreign arrivals: all ends as if power had never been lost. That the file is valid, which
-- arrivals are foreign, and that it names no region is asked of w alone.
unfoldable pub CutThenWhole : Type 0
CutThenWhole =
    (s : Settings) (v w : World) (F : File) → Cut s F v w → ValidFile s w F → Plain s w F
    → (l : List (List ℕ)) → Sent s w F l → how_many F (seen_of F l) ≡ F.total
    → receive_all s v l ≡ receive_all s w l

-- ---- what stands already need not be written: a transfer may be taken up where the flash has the pages of S, and 0xFF beside them

pub record Standing (s : Settings) (w : World) (F : File) (S : Set) : Type 0 where
  pub pages : (k : ℕ) → k < F.total → S k ≡ true → is_data F k ≡ true → (i : ℕ) → i < 256
      → get_or (buffer_of F.kind w.held) (storage_of s w F k + i) 0 ≡ get_or (payload_of (F.block k)) i 0
  pub rest : (j : ℕ) → j < length w.held.flash → touched_by s w F S (j / 4096) ≡ true → held_by s w F S Flash j ≡ false
      → get_or w.held.flash j 0 ≡ 255

-- the buffers stay as they are, whatever the maps were: transfer and maps alone tell that these blocks came
unfoldable pub StandingIsReceived : Type 0
StandingIsReceived =
    (s : Settings) (w : World) (F : File) → w.transfer ≡ Idle → ValidFile s w F → Plain s w F
    → (l : List (List ℕ)) → Sent s w F l → Standing s w F (seen_of F l)
    → (u : Kind) → buffer_of u (receive_all s w l).held ≡ buffer_of u w.held
