-- A file whose regions are right, by demand 3 (02, L9): it is a `ValidFile` that meets `Regions`, so that once every piece came the buffers are as
-- without regions. "Of no other content met" stays a hypothesis. Proved in proofs/Valid.antt. Assumes nothing.
use Rattle.std.specs.Prelude.{ℕ, ◌<◌, ◌≡◌, true, List, length, Ok}
use Rattle.partitions.specs.declared.Settings.{Settings}
use Rattle.transfer.specs.declared.State.TheVariants.{Idle}
use Rattle.uf2_checks.specs.declared.Lengths.{Lengths}
use Rattle.arrival.specs.Arrive.{World, lengths_of}
use Rattle.arrival.specs.Lists.{receive_all, AtEach}
use Rattle.demand.specs.Demand.{Sent, among, seen_of, Contents}
use Rattle.demand.specs.Regions.{Regions, NoOther}
use Rattle.file_check.specs.Check.{piece_at, pieces_in}
use Rattle.file_check.specs.Valid.{Start, Good, file_of}
use Rattle.file_check.specs.declared.fileregions.RegionsChecked.{RegionsChecked}
use Rattle.file_check.specs.declared.fileregions.RegionsChecked.TheVariants.{Named}
use Rattle.file_check.specs.Regions.{check_regions_of}

-- what the check says where maps and an image of the right lengths are lent
abbrev pub answer_on : Settings → Lengths → List ℕ → RegionsChecked
answer_on s n f = check_regions_of s n 16384 16384 2080 n.flash f

-- each region is right: the pieces are the blocks of a valid file, and it is what L9 asks of a file
unfoldable pub RightIsRight : Type 0
RightIsRight =
    (s : Settings) (n : Lengths) (f : List ℕ) → answer_on s n f ≡ Named (Ok tt)
    → Good s n f (file_of n f) × ((w : World) → Start n w → Regions s w (file_of n f))

-- such a file, sent whole to an Idle board, with no other content met: the buffers are as without regions
unfoldable pub RightArrives : Type 0
RightArrives =
    (s : Settings) (w : World) (f : List ℕ) (l : List (List ℕ)) → w.transfer ≡ Idle → length w.seen ≡ 16384 → length w.held.sectors ≡ 1024
    → answer_on s (lengths_of w.held) f ≡ Named (Ok tt)
    → Sent s w (file_of (lengths_of w.held) f) l → ((i : ℕ) → i < pieces_in f → among (piece_at f i) l ≡ true)
    → AtEach (NoOther s w (file_of (lengths_of w.held) f)) s w l
    → Contents s w (file_of (lengths_of w.held) f) (seen_of (file_of (lengths_of w.held) f) l) (receive_all s w l)
