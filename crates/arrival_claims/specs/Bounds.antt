-- What one arrival leaves alone, and where a block lies that is let through, whatever the settings, the transfer, the buffers and the arrival.
-- Proved in proofs/Bounds.antt. Assumes nothing.
use Rattle.std.specs.Prelude.{ℕ, ◌+◌, ◌≤◌, ◌<◌, ◌≡◌, ◌⊎◌, true, false, List, length, get_or, Option, Some, None}
use Rattle.uf2_block.specs.Block.{field_at, has_flag}
use Rattle.partitions.specs.declared.Settings.{Settings}
use Rattle.placement.specs.Place.{place_of}
use Rattle.placement.specs.declared.Place.{Place}
use Rattle.transfer.specs.Transfer.{number_of}
use Rattle.arrival.specs.Arrive.{World, unchanged, receive_of}
use Rattle.arrival.specs.Windows.{lies, has_buffer, kind_of}

-- "Answers 1 to 13 change nothing, "discarded" is no."
unfoldable pub RefusalsChangeNothing : Type 0
RefusalsChangeNothing =
    (s : Settings) (w : World) (a : List ℕ) → number_of (receive_of s w a).answer ≤ 13
    → receive_of s w a ≡ unchanged w (receive_of s w a).answer

-- byte j of the flash lies outside a place
abbrev pub Outside : Option Place → ℕ → Type 0
Outside None j = Unit {0}
Outside (Some p) j = (j < p.start) ⊎ (p.start + p.len ≤ j)

-- "Outside the place no byte changes."
unfoldable pub OutsideKept : Type 0
OutsideKept =
    (s : Settings) (w : World) (a : List ℕ) (j : ℕ) → Outside (place_of s (length w.held.flash) (field_at a 28)) j
    → get_or (receive_of s w a).world.held.flash j 0 ≡ get_or w.held.flash j 0

-- what a data block that rows 1 to 11 let through lies in: the window of its kind, first byte and last, whose buffer is lent
pub record Windowed (w : World) (a : List ℕ) : Type 0 where
  pub first : lies (kind_of w a) (field_at a 12) ≡ true
  pub last : lies (kind_of w a) (field_at a 12 + 255) ≡ true
  pub lent : has_buffer w (kind_of w a) ≡ true

-- "0x10000000 up to, not including, 0x12000000", and the windows of RAM
unfoldable pub WindowKept : Type 0
WindowKept =
    (s : Settings) (w : World) (a : List ℕ) → 12 ≤ number_of (receive_of s w a).answer → has_flag a 0x1 ≡ false → Windowed w a
