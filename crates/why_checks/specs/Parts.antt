-- Rows 12 to 17 as the code asks them. Assumes nothing.
use Rattle.std.specs.Prelude.{ℕ, Bool, not, cond, List, leb, eqb, Option, Result, Ok, Err}
use Rattle.memory.specs.Bitmap.{marked_in}
use Rattle.uf2_block.specs.Block.{field_at, has_flag}
use Rattle.uf2_block.specs.Region.{region_of}
use Rattle.uf2_block.specs.declared.Region.{Region}
use Rattle.uf2_block.specs.Regions.{stands_in}
use Rattle.placement.specs.declared.Place.{Place}
use Rattle.transfer.specs.Transfer.{same_kind}
use Rattle.transfer.specs.declared.Kind.{Kind}
use Rattle.transfer.specs.declared.Kind.TheVariants.{Flash}
use Rattle.transfer.specs.declared.Head.{Head}
use Rattle.transfer.specs.declared.State.{State}
use Rattle.why_causes.specs.Causes.{reason_with}
use Rattle.why_causes.specs.Checks.{or_next, or_last}
use Rattle.why_causes.specs.declared.NotKept.TheVariants.{NoRegion, InRam, Ragged, Empty, OutsidePlace, NotAround, OtherDigest}
use Rattle.why_causes.specs.declared.Cause.TheVariants.{Finished, Again, Written, Completed, Noted, Kept}
use Rattle.why_causes.specs.declared.Reason.{Reason}
use Rattle.why_checks.specs.Block.{start_at, size_at, raised_of, is_done, is_again, ragged, within, around}

-- rows 12, 13, 15 and 16
unfoldable pub fate_part : State → Head → ℕ → Bool → Bool → Result (Unit {0}) Reason
fate_part t g number marked comment =
    cond (is_done t) (Err (reason_with Finished number g.total))
    (cond (is_again t g marked) (Err (reason_with Again number g.total))
    (cond (leb g.total (raised_of t g)) (Err (reason_with Completed (raised_of t g) g.total))
    (cond comment (Err (reason_with Noted (raised_of t g) g.total))
    (Ok tt))))

-- row 14, of a region
unfoldable pub region_part : List ℕ → ℕ → ℕ → ℕ → Region → ℕ → ℕ → Result (Unit {0}) Reason
region_part flash start size address g raised total =
    cond (ragged g) (Err (reason_with (Written Ragged) raised total))
    (cond (eqb g.len 0) (Err (reason_with (Written Empty) raised total))
    (cond (not (within size g)) (Err (reason_with (Written OutsidePlace) raised total))
    (cond (not (around address g)) (Err (reason_with (Written NotAround) raised total))
    (cond (not (stands_in flash start g)) (Err (reason_with (Written OtherDigest) raised total))
    (Ok tt)))))

-- row 14
unfoldable pub written_part : List ℕ → ℕ → ℕ → Kind → List ℕ → ℕ → ℕ → Result (Unit {0}) Reason
written_part flash start size k a raised total =
    cond (not (has_flag a 0x4000)) (Err (reason_with (Written NoRegion) raised total))
    (cond (not (same_kind k Flash)) (Err (reason_with (Written InRam) raised total))
    (region_part flash start size (field_at a 12) (region_of a) raised total))

-- rows 12 to 17
unfoldable pub late_part : State → Head → Option Place → Bool → ℕ → List ℕ → List ℕ → List ℕ → Reason
late_part t g p comment number a flash seen =
    or_last (reason_with Kept (raised_of t g) g.total)
    (or_next (fate_part t g number (marked_in seen number) comment)
    (written_part flash (start_at p) (size_at p) g.kind a (raised_of t g) g.total))
