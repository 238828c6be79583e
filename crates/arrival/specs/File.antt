-- A file of blocks, and where a kind's window starts in its buffer: the words in which one arrival and lists of them are spoken of.
-- Assumes nothing.
use Rattle.std.specs.Prelude.{ℕ, Bool, true, false, not, List, length, Option, Some, None, Ok, Err}
use Rattle.uf2_block.specs.Block.{has_flag, Header}
use Rattle.uf2_block.specs.declared.HeaderError.TheVariants as header
use Rattle.partitions.specs.declared.Settings.{Settings}
use Rattle.placement.specs.Place.{place_of}
use Rattle.placement.specs.declared.Place.{Place}
use Rattle.transfer.specs.Transfer.{head_with}
use Rattle.transfer.specs.declared.Kind.{Kind}
use Rattle.transfer.specs.declared.Kind.TheVariants.{Flash, MainRam, XipRam}
use Rattle.transfer.specs.declared.Head.{Head}
use Rattle.arrival.specs.Arrive.{World}

-- a file of `total` blocks of one family and one kind (02, L8): the arrival that is block k
pub record File : Type 0 where
  pub total : ℕ
  pub family : ℕ
  pub kind : Kind
  pub block : ℕ → List ℕ

-- "blocks are data or comments" (02, L3): block k is data, its flag 0x1 being clear
abbrev pub is_data : File → ℕ → Bool
is_data F k = not (has_flag (F.block k) 0x1)

-- "Running (family, n, m)", "Done (family, n)": the family and the n, and the kind, "which the transfer carries once it isn't Idle"
abbrev pub head_in : File → Head
head_in F = head_with F.kind F.family F.total

-- the header yields a block
abbrev pub is_found : Header → Bool
is_found (Err header.NotBlock) = false
is_found (Err header.Container) = false
is_found (Err header.NoFamily) = false
is_found (Ok b) = true

-- where a place starts
abbrev pub start_of : Option Place → ℕ
start_of None = 0
start_of (Some p) = p.start

-- what a kind's window starts at in its buffer: flash's at the start of the family's place, RAM's at 0
abbrev pub origin_of : Settings → World → Kind → ℕ → ℕ
origin_of s w Flash f = start_of (place_of s (length w.held.flash) f)
origin_of s w MainRam f = 0
origin_of s w XipRam f = 0
