-- The check of a file's regions, cut as the code does it. Assumes nothing.
use Rattle.std.specs.Prelude.{ℕ, ◌<◌, ◌≤◌, ◌≡◌, Bool, true, false, cond, not, ◌&&◌, List, length, Result, Ok, ⊤}
use Rattle.laws.specs.Sets.{Set, any, least}
use Rattle.memory.specs.Bitmap.{with_mark, marked_in, unmarked}
use Rattle.uf2_block.specs.Block.{field_at, has_flag}
use Rattle.uf2_block.specs.Region.{region_of}
use Rattle.uf2_block.specs.declared.Region.{Region}
use Rattle.uf2_block.specs.Regions.{good_region}
use Rattle.partitions.specs.declared.Settings.{Settings}
use Rattle.uf2_checks.specs.declared.Lengths.{Lengths}
use Rattle.file_check.specs.Check.{piece_at, pieces_in}
use Rattle.file_check.specs.Valid.{answer_to}
use Rattle.file_check.specs.Regions.{inside_of, sector_in, in_turn, fault_in, region_fault, is_right, names_regions}
use Rattle.file_check.specs.declared.fileregions.RegionFault.{RegionFault}

-- an arrival is data, and names a region that counts in a place of so many bytes
unfoldable pub names_in : ℕ → List ℕ → Bool
names_in size a = not (has_flag a 0x1) && has_flag a 0x4000 && good_region size (field_at a 12) (region_of a)

abbrev pub names_at : ℕ → List ℕ → Set
names_at size f i = names_in size (piece_at f i)

-- a map with the sector of an arrival, where it is data in the region
unfoldable pub sector_with : Region → List ℕ → List ℕ → List ℕ
sector_with g a m = cond (inside_of g a) (with_mark m (sector_in g a)) m

abbrev pub sectoring : List ℕ → Region → ℕ → List ℕ → List ℕ
sectoring f g k m = sector_with g (piece_at f k) m

-- a map with the number k, where the arrival is data in the region
unfoldable pub note_with : Region → List ℕ → ℕ → List ℕ → List ℕ
note_with g a k m = cond (inside_of g a) (with_mark m k) m

abbrev pub noting : List ℕ → Region → ℕ → List ℕ → List ℕ
noting f g k m = note_with g (piece_at f k) k m

-- the map after the region of piece i was asked
unfoldable pub noted_after : List ℕ → ℕ → Region → List ℕ → List ℕ
noted_after f i g m = cond (is_right (fault_in f i g)) (in_turn (noting f g) m (pieces_in f)) m

-- piece i names a region that counts, and something is wrong with it
abbrev pub wrong_at : ℕ → List ℕ → Set
wrong_at size f i = names_at size f i && not (is_right (region_fault f i))

-- what is wrong with the region of piece i, where it names one that counts
unfoldable pub asked_of : ℕ → List ℕ → ℕ → Result ⊤ RegionFault
asked_of size f i = cond (names_at size f i) (region_fault f i) (Ok tt)

-- the first piece with which something is wrong decides
unfoldable pub regions_by : ℕ → List ℕ → Result ⊤ RegionFault
regions_by size f = cond (any (pieces_in f) (wrong_at size f)) (region_fault f (least (pieces_in f) (wrong_at size f))) (Ok tt)

-- nothing is wrong with the region of a piece that is marked
abbrev pub Noted : ℕ → List ℕ → List ℕ → Type 0
Noted size f m = (j : ℕ) → j < pieces_in f → marked_in m j ≡ true → wrong_at size f j ≡ false

-- the buffers have room for a region of a place of so many bytes
pub record Roomy (size : ℕ) (cells bytes : List ℕ) : Type 0 where
  pub most : size ≤ 33554432
  pub image : size ≤ length bytes
  pub marks : length cells ≡ 16384

-- the first check found regions; the map of numbers is cleared, and the buffers have their lengths
pub record Opened (s : Settings) (n : Lengths) (f numbers cells bytes : List ℕ) : Type 0 where
  pub checked : names_regions (answer_to s n f) ≡ true
  pub clear : numbers ≡ unmarked (length numbers)
  pub marks : length cells ≡ 16384
  pub image : length bytes ≡ n.flash
