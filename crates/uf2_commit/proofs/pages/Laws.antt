-- What the code writes for a page, call by call. Assumes nothing.
use mathlib.Core.Path.{◌≡◌, ap}
use mathlib.Core.List.{List}
use Prim.Native.Nat.{ℕ}
use Rattle.flash_plan.specs.declared.Plan.{Plan}
use Rattle.flash_plan.specs.Plan.{SectorPaged, sector_paged, sector_paged_of}
use Rattle.uf2_commit.specs.Pages.{beside, writing, sector_writing}

-- a page of flash does not ask for RAM, nor change it
pub sector_beside : (at : ℕ) (k u x : List ℕ) {k1 : List ℕ} {r : Plan} → sector_paged r k1 ≡ sector_paged_of at k → writing r (beside k1 u x) ≡ sector_writing at (beside k u x)
sector_beside at k u x e = ap (λ (w : SectorPaged). writing w.plan (beside w.sectors u x)) e
