-- What the code writes, buffer by buffer. Assumes nothing.
use Rattle.std.specs.Prelude.{ℕ, List}
use Rattle.memory.specs.Bitmap.{with_mark}
use Rattle.transfer.specs.declared.Deed.{Deed}
use Rattle.transfer.specs.declared.Accepted.{Accepted}
use Rattle.uf2_checks.specs.declared.PlacedBlock.{PlacedBlock}
use Rattle.arrival.specs.Arrive.{Held, cleared_if, at_of}
use Rattle.flash_plan.specs.declared.Plan.{Plan}
pub use Rattle.uf2_commit.specs.Pages.{Beside, beside, beside_at, beside_left, Writing, writing, deed_writing}

-- with the seen map
pub record Entering : Type 0 where
  pub writing : Writing
  pub seen : List ℕ

abbrev pub entering : Plan → List ℕ → Beside → Entering
entering r m h = record { writing = writing r h; seen = m }

-- a block that is accepted; m is the seen map as it is lent
unfoldable pub entering_of : PlacedBlock → Deed → Accepted → List ℕ → List ℕ → Beside → Entering
entering_of p d t payload m h =
    record {
      writing =
          deed_writing d p.head.kind (at_of p.body) payload
          (beside (cleared_if t.clears h.sectors) h.main h.xip);
      seen = with_mark (cleared_if t.clears m) p.number;
    }

-- what a page changes beside the flash
abbrev pub beside_of : Held → Beside
beside_of h = beside h.sectors h.main h.xip
