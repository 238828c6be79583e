-- What is claimed of one arrival in RAM (02, L8: "No erase, no sector mark: only the 256 bytes change."), whatever the settings, the transfer, the
-- buffers and the arrival. Proved in proofs/Ram.antt, of rows 8 and 11 in proofs/RamRows.antt. Assumes nothing.
use Rattle.std.specs.Prelude.{ℕ, ◌+◌, ◌-◌, ◌≤◌, ◌<◌, ◌≡◌, ◌≢◌, false, List, get_or}
use Rattle.memory.specs.Flash.{spans}
use Rattle.uf2_block.specs.Block.{field_at, has_flag}
use Rattle.partitions.specs.Settings.{entry_at}
use Rattle.partitions.specs.declared.Settings.{Settings}
use Rattle.transfer.specs.Transfer.{number_of}
use Rattle.transfer.specs.declared.Kind.{Kind}
use Rattle.transfer.specs.declared.Kind.TheVariants.{Flash}
use Rattle.arrival.specs.Arrive.{World, buffer_of, cleared_if, receive_of}
use Rattle.arrival.specs.Windows.{window_start, window_end, kind_of, head_of}
use Rattle.arrival_claims.specs.Tally.{clears}

-- an arrival of one kind leaves the buffers of the others whole
unfoldable pub OtherKindsKept : Type 0
OtherKindsKept =
    (s : Settings) (w : World) (a : List ℕ) (k : Kind) → k ≢ kind_of w a
    → buffer_of k (receive_of s w a).world.held ≡ buffer_of k w.held

-- "only the 256 bytes change": each other byte of a RAM buffer stays, whatever comes
unfoldable pub RamKept : Type 0
RamKept =
    (s : Settings) (w : World) (a : List ℕ) (k : Kind) (j : ℕ) → k ≢ Flash → spans (field_at a 12 - window_start k) j ≡ false
    → get_or (buffer_of k (receive_of s w a).world.held) j 0 ≡ get_or (buffer_of k w.held) j 0

-- and they are the payload's
unfoldable pub RamStored : Type 0
RamStored =
    (s : Settings) (w : World) (a : List ℕ) (i : ℕ) → 14 ≤ number_of (receive_of s w a).answer → has_flag a 0x1 ≡ false → kind_of w a ≢ Flash
    → i < 256
    → get_or (buffer_of (kind_of w a) (receive_of s w a).world.held) (field_at a 12 - window_start (kind_of w a) + i) 0 ≡ get_or a (32 + i) 0

-- "No erase, no sector mark": of the sector map an accepted arrival of RAM only takes the marks away, where it opens a transfer
unfoldable pub RamMarksNothing : Type 0
RamMarksNothing =
    (s : Settings) (w : World) (a : List ℕ) → 14 ≤ number_of (receive_of s w a).answer → kind_of w a ≢ Flash
    → (receive_of s w a).world.held.sectors ≡ cleared_if (clears w.transfer (head_of w a)) w.held.sectors

-- "families ..58 to ..5b or a user family of a used entry": user family i, of at most 4, of entry k, whatever its link
pub data RamFamily (s : Settings) (f : ℕ) : Type 0 where
  named : 0xe48bff58 ≤ f → f ≤ 0xe48bff5b → RamFamily s f
  user : (k i : ℕ) → k < s.count → i < 4 → i < (entry_at s.table k).user_count → get_or (entry_at s.table k).users i 0 ≡ f
      → RamFamily s f

-- "In RAM only" these; "others 8": who passes row 8 has one, and who has one is not refused there
unfoldable pub RamFamilies : Type 0
RamFamilies =
    (s : Settings) (w : World) (a : List ℕ) → kind_of w a ≢ Flash
    → (9 ≤ number_of (receive_of s w a).answer → RamFamily s (field_at a 28))
    × (RamFamily s (field_at a 28) → number_of (receive_of s w a).answer ≢ 8)

-- "by byte address (there 11 is only address + 256 past the window's end)"
unfoldable pub RamAddresses : Type 0
RamAddresses =
    (s : Settings) (w : World) (a : List ℕ) → kind_of w a ≢ Flash → has_flag a 0x1 ≡ false → number_of (receive_of s w a).answer ≡ 11
    → window_end (kind_of w a) < field_at a 12 + 256
