-- What an answer about a file's regions says, by the fields of its pieces: a fault that is told is there, and "right" is what L9 asks of the file,
-- region by region. Proved in proofs/Told.antt. Assumes nothing.
use Rattle.std.specs.Prelude.{ℕ, ◌+◌, ◌-◌, ◌/◌, ◌<◌, ◌≤◌, ◌≡◌, ◌≢◌, true, false, List, Ok, Err}
use Rattle.uf2_block.specs.Block.{has_flag}
use Rattle.uf2_block.specs.Region.{region_of}
use Rattle.md5_digest.specs.Md5.{md5_of}
use Rattle.partitions.specs.declared.Settings.{Settings}
use Rattle.uf2_checks.specs.declared.Lengths.{Lengths}
use Rattle.arrival.specs.Standing.{digest_in}
use Rattle.file_check.specs.declared.FileFault.TheVariants.{BadBuffers}
use Rattle.file_check.specs.Check.{piece_at, pieces_in, field_in, is_page, is_guarding, check_of}
use Rattle.file_check.specs.declared.fileregions.RegionsChecked.{RegionsChecked}
use Rattle.file_check.specs.declared.fileregions.RegionsChecked.TheVariants.{As, Named}
use Rattle.file_check.specs.declared.fileregions.RegionFault.TheVariants.{OtherRegion, BareSector, OtherDigest}
use Rattle.file_check.specs.Regions.{final_of, names_regions, check_regions_of}

-- piece k is data, and its address lies in the region that piece i names
pub record InRegion (f : List ℕ) (i k : ℕ) : Type 0 where
  pub page : is_page f k ≡ true
  pub from : field_in f i 484 ≤ field_in f k 12
  pub to : field_in f k 12 < field_in f i 484 + field_in f i 488

-- "carry that same region": flag 0x4000, and its start, length and MD5
pub record Carries (f : List ℕ) (i k : ℕ) : Type 0 where
  pub flag : has_flag (piece_at f k) 0x4000 ≡ true
  pub start : field_in f k 484 ≡ field_in f i 484
  pub len : field_in f k 488 ≡ field_in f i 488
  pub digest : digest_in (piece_at f k) ≡ digest_in (piece_at f i)

-- the sector of the region of piece i that piece k lies in
abbrev pub sector_of : List ℕ → ℕ → ℕ → ℕ
sector_of f i k = (field_in f k 12 - field_in f i 484) / 4096

pub record RightRegion (f : List ℕ) (i : ℕ) : Type 0 where
  -- "that every data block in a region carry that same region,"
  pub same : (k : ℕ) → k < pieces_in f → InRegion f i k → Carries f i k
  -- "that every sector of it have one,"
  pub every : (q : ℕ) → q < field_in f i 488 / 4096 → (k : ℕ) × (k < pieces_in f) × InRegion f i k × (sector_of f i k ≡ q)
  -- "that the digest be of the final bytes,"
  pub digest : md5_of (final_of f (region_of (piece_at f i))) ≡ digest_in (piece_at f i)

abbrev pub Told : Settings → Lengths → ℕ → ℕ → ℕ → ℕ → List ℕ → RegionsChecked → Type 0
Told s n a b c d f (As x) =
    (names_regions (check_of s n a b c f) ≡ false → x ≡ check_of s n a b c f)
    × (names_regions (check_of s n a b c f) ≡ true → (x ≡ Err BadBuffers) × (d ≢ n.flash))
Told s n a b c d f (Named (Err (OtherRegion i k))) = (is_guarding s n f i ≡ true) × (k < pieces_in f) × InRegion f i k × (Carries f i k → ⊥)
Told s n a b c d f (Named (Err (BareSector i q))) =
    (is_guarding s n f i ≡ true) × (q < field_in f i 488 / 4096) × ((k : ℕ) → k < pieces_in f → InRegion f i k → sector_of f i k ≢ q)
Told s n a b c d f (Named (Err (OtherDigest i))) = (is_guarding s n f i ≡ true) × (md5_of (final_of f (region_of (piece_at f i))) ≢ digest_in (piece_at f i))
Told s n a b c d f (Named (Ok u)) =
    (names_regions (check_of s n a b c f) ≡ true) × ((i : ℕ) → i < pieces_in f → is_guarding s n f i ≡ true → RightRegion f i)

-- whatever is lent and whatever the file
unfoldable pub RegionsAnswersAreTrue : Type 0
RegionsAnswersAreTrue =
    (s : Settings) (n : Lengths) (a b c d : ℕ) (f : List ℕ) → Told s n a b c d f (check_regions_of s n a b c d f)
