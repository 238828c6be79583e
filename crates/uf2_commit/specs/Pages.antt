-- What the code writes for a page, buffer by buffer. Assumes nothing.
use Rattle.std.specs.Prelude.{ℕ, ◌/◌, List}
use Rattle.memory.specs.Bitmap.{with_mark}
use Rattle.memory.specs.Flash.{store_at}
use Rattle.transfer.specs.declared.Kind.{Kind}
use Rattle.transfer.specs.declared.Kind.TheVariants.{Flash, MainRam, XipRam}
use Rattle.transfer.specs.declared.Deed.{Deed}
use Rattle.transfer.specs.declared.Deed.TheVariants.{Stores, Notes, Keeps}
use Rattle.arrival.specs.Lending.{Slice}
use Rattle.flash_plan.specs.Plan.{sector_plan}
use Rattle.flash_plan.specs.declared.Plan.{Plan}
use Rattle.flash_plan.specs.declared.Plan.TheVariants.{Nothing}

-- sector map, main RAM and XIP RAM
pub record Beside : Type 0 where
  pub sectors : List ℕ
  pub main : List ℕ
  pub xip : List ℕ

abbrev pub beside : List ℕ → List ℕ → List ℕ → Beside
beside k u x = record { sectors = k; main = u; xip = x }

-- the three as they are lent and as they are left
abbrev pub beside_at : Slice → Slice → Slice → Beside
beside_at k u x = beside k u x

abbrev pub beside_left : Slice → Slice → Slice → Beside
beside_left k u x = beside k u x

-- the plan, with what is left beside the flash
pub record Writing : Type 0 where
  pub plan : Plan
  pub left : Beside

abbrev pub writing : Plan → Beside → Writing
writing r h = record { plan = r; left = h }

-- a page of flash: the plan, and its sector marked
abbrev pub sector_writing : ℕ → Beside → Writing
sector_writing at h = writing (sector_plan at h.sectors) (beside (with_mark h.sectors (at / 4096)) h.main h.xip)

-- a page of the kind
abbrev pub page_writing : Kind → ℕ → List ℕ → Beside → Writing
page_writing Flash at p h = sector_writing at h
page_writing MainRam at p h = writing Nothing (beside h.sectors (store_at h.main at p) h.xip)
page_writing XipRam at p h = writing Nothing (beside h.sectors h.main (store_at h.xip at p))

abbrev pub deed_writing : Deed → Kind → ℕ → List ℕ → Beside → Writing
deed_writing Stores k at p h = page_writing k at p h
deed_writing Notes k at p h = writing Nothing h
deed_writing Keeps k at p h = writing Nothing h
