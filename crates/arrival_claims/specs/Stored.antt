-- What one stored flash page leaves, from any transfer, maps and flash (01, "One arrival"): "if the transfer was Idle, or Running with another family or
-- total, both maps are first set to zero and the count starts at 0 .. If the storage sector isn't marked, all its 4,096 bytes become 0xFF and it is marked. The
-- payload is stored, the number marked, the count raised; at the total the transfer is Done." Proved in proofs/Stored.antt. Assumes nothing.
use Rattle.std.specs.Prelude.{ℕ, ◌+◌, ◌-◌, ◌/◌, ◌≤◌, ◌<◌, ◌≡◌, ◌⊎◌, ◌≢◌, Bool, true, false, cond, ◌&&◌, ◌||◌, List, eqb, ltb, length, get_or, Some}
use Rattle.memory.specs.Bitmap.{marked_in}
use Rattle.uf2_block.specs.Block.{field_at, has_flag}
use Rattle.partitions.specs.declared.Settings.{Settings}
use Rattle.placement.specs.Place.{place_of, place_from}
use Rattle.transfer.specs.Transfer.{number_of}
use Rattle.transfer.specs.declared.Kind.TheVariants.{Flash}
use Rattle.transfer.specs.declared.Run.{Run}
use Rattle.transfer.specs.declared.State.TheVariants.{Idle, Running, Done}
use Rattle.arrival.specs.Arrive.{World, Outcome, receive_of}
use Rattle.arrival.specs.Standing.{Standing}
use Rattle.arrival.specs.Windows.{kind_of, head_of}

-- whether the marks so far count, the raised count, and "discarded"
pub data Raised (w : World) (a : List ℕ) : Bool → ℕ → Bool → Type 0 where
  -- Running with the block's family, total and kind
  goes_on_case : (c : ℕ) → w.transfer ≡ Running (record { head = head_of w a; count = c }) → Raised w a true (c + 1) false
  opens : w.transfer ≡ Idle → Raised w a false 1 false
  discards : (r : Run) → w.transfer ≡ Running r → r.head ≢ head_of w a → Raised w a false 1 true

-- what a page at byte `at` of the flash leaves
pub record Stored (w : World) (a : List ℕ) (at : ℕ) (on : Bool) (c : ℕ) (o : Outcome) : Type 0 where
  pub running : c < field_at a 24 → o.world.transfer ≡ Running (record { head = head_of w a; count = c })
  pub done : field_at a 24 ≤ c → o.world.transfer ≡ Done (head_of w a)
  pub answer : number_of o.answer ≡ cond (ltb c (field_at a 24)) 14 15
  -- of all 131,072 numbers and all 8,192 sectors
  pub seen : (k : ℕ) → k < 131072 → marked_in o.world.seen k ≡ eqb k (field_at a 20) || on && marked_in w.seen k
  pub sectors : (q : ℕ) → q < 8192 → marked_in o.world.held.sectors q ≡ eqb q (at / 4096) || on && marked_in w.held.sectors q
  -- of every byte of the flash
  pub payload : (i : ℕ) → i < 256 → get_or o.world.held.flash (at + i) 0 ≡ get_or a (32 + i) 0
  pub rest : (j : ℕ) → j / 4096 ≡ at / 4096 → (j < at) ⊎ (at + 256 ≤ j)
      → get_or o.world.held.flash j 0 ≡ cond (on && marked_in w.held.sectors (at / 4096)) (get_or w.held.flash j 0) 255
  pub others : (j : ℕ) → j / 4096 ≢ at / 4096 → get_or o.world.held.flash j 0 ≡ get_or w.held.flash j 0

pub record FlashStored (w : World) (a : List ℕ) (at : ℕ) (o : Outcome) : Type 0 where
  pub on : Bool
  pub count : ℕ
  pub raised : Raised w a on count o.discarded
  pub stored : Stored w a at on count o

-- "Storage address = place start + block address - 0x10000000"
unfoldable pub FlashStoredStated : Type 0
FlashStoredStated =
    (s : Settings) (w : World) (a : List ℕ) (start size : ℕ) → has_flag a 0x1 ≡ false → kind_of w a ≡ Flash → (Standing s w a → ⊥)
    → 14 ≤ number_of (receive_of s w a).answer → place_of s (length w.held.flash) (field_at a 28) ≡ Some (place_from start size)
    → FlashStored w a (start + (field_at a 12 - 0x10000000)) (receive_of s w a)
