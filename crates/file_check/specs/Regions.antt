-- A file with regions, checked before it is sent (02, L9): "It asks that every data block in a region carry that same region, that every sector of it
-- have one, that the digest be of the final bytes, and of no other content met." The last is a matter of the flash that a block meets, and of no
-- file. Assumes nothing.
use Rattle.std.specs.Prelude.{ℕ, zero, suc, ◌+◌, ◌-◌, ◌/◌, Bool, true, false, cond, not, ◌&&◌, List, eqb, ltb, leb, Result, Ok, Err, ⊤}
use Rattle.laws.specs.Sets.{Set, any, least}
use Rattle.memory.specs.Many.{many}
use Rattle.memory.specs.Flash.{payload_of, store_at}
use Rattle.uf2_block.specs.Block.{field_at, has_flag}
use Rattle.uf2_block.specs.Region.{region_of}
use Rattle.uf2_block.specs.declared.Region.{Region}
use Rattle.md5_digest.specs.Md5.{md5_of}
use Rattle.uf2_block.specs.Regions.{same_digest}
use Rattle.partitions.specs.declared.Settings.{Settings}
use Rattle.uf2_checks.specs.declared.Lengths.{Lengths}
use Rattle.file_check.specs.declared.FileFault.TheVariants.{BadBuffers, BadSettings, Ragged, Empty, Refused, OtherFamily, OtherTotal, OtherKind, SameNumber, Overlap, Missing, Guarded}
use Rattle.file_check.specs.Check.{Checked, piece_at, pieces_in, is_guarding, check_of, checked_number}
use Rattle.file_check.specs.declared.fileregions.RegionsChecked.{RegionsChecked}
use Rattle.file_check.specs.declared.fileregions.RegionsChecked.TheVariants.{As, Named}
use Rattle.file_check.specs.declared.fileregions.RegionFault.{RegionFault}
use Rattle.file_check.specs.declared.fileregions.RegionFault.TheVariants.{OtherRegion, BareSector, OtherDigest}

-- ---- an arrival, beside a region

-- it is data, and its address lies in the region
unfoldable pub inside_of : Region → List ℕ → Bool
inside_of g a = not (has_flag a 0x1) && leb g.start (field_at a 12) && ltb (field_at a 12) (g.start + g.len)

-- two regions are the same: "the last 24 data bytes give region start .., length and MD5"
unfoldable pub same_region : Region → Region → Bool
same_region x g =
    eqb x.start g.start
    && eqb x.len g.len
    && eqb x.a g.a
    && eqb x.b g.b
    && eqb x.c g.c
    && eqb x.d g.d

-- it is data in the region, and does not "carry that same region"
unfoldable pub strays_from : Region → List ℕ → Bool
strays_from g a = inside_of g a && not (has_flag a 0x4000 && same_region (region_of a) g)

-- the sector of the region that an address lies in, counted from 0
abbrev pub sector_in : Region → List ℕ → ℕ
sector_in g a = (field_at a 12 - g.start) / 4096

-- bytes of the region with the payload, where it is data in the region
unfoldable pub laid_on : Region → List ℕ → List ℕ → List ℕ
laid_on g a c = cond (inside_of g a) (store_at c (field_at a 12 - g.start) (payload_of a)) c

-- ---- the pieces of a file, beside a region

-- piece k is data in the region, and names none or another
abbrev pub is_stray : List ℕ → Region → Set
is_stray f g k = strays_from g (piece_at f k)

-- no piece lies in sector q of the region
abbrev pub is_bare : List ℕ → Region → Set
is_bare f g q = not (any (pieces_in f) (λ k. inside_of g (piece_at f k) && eqb (sector_in g (piece_at f k)) q))

-- what a step makes of something, taken for 0, 1 and so on below n
unfoldable pub in_turn : (ℕ → List ℕ → List ℕ) → List ℕ → ℕ → List ℕ
in_turn step c zero = c
in_turn step c (suc n) = step n (in_turn step c n)

abbrev pub laying : List ℕ → Region → ℕ → List ℕ → List ℕ
laying f g k c = laid_on g (piece_at f k) c

-- "the final bytes" of the region: 0xFF, and the payload of every piece in it
unfoldable pub final_of : List ℕ → Region → List ℕ
final_of f g = in_turn (laying f g) (many g.len 255) (pieces_in f)

-- ---- what is wrong with the region that piece i names

-- "every data block in a region carry that same region", "every sector of it have one", "the digest be of the final bytes"
unfoldable pub fault_in : List ℕ → ℕ → Region → Result ⊤ RegionFault
fault_in f i g =
    cond (any (pieces_in f) (is_stray f g)) (Err (OtherRegion i (least (pieces_in f) (is_stray f g))))
    (cond (any (g.len / 4096) (is_bare f g)) (Err (BareSector i (least (g.len / 4096) (is_bare f g))))
    (cond (not (same_digest (md5_of (final_of f g)) g)) (Err (OtherDigest i))
    (Ok tt)))

abbrev pub region_fault : List ℕ → ℕ → Result ⊤ RegionFault
region_fault f i = fault_in f i (region_of (piece_at f i))

abbrev pub is_right : Result ⊤ RegionFault → Bool
is_right (Ok u) = true
is_right (Err x) = false

-- piece i names a region that counts, and something is wrong with it
abbrev pub is_wrong : Settings → Lengths → List ℕ → Set
is_wrong s n f i = is_guarding s n f i && not (is_right (region_fault f i))

-- the first such piece decides
unfoldable pub regions_of : Settings → Lengths → List ℕ → Result ⊤ RegionFault
regions_of s n f =
    cond (any (pieces_in f) (is_wrong s n f))
    (region_fault f (least (pieces_in f) (is_wrong s n f)))
    (Ok tt)

-- the first check says that the file is valid and names regions
abbrev pub names_regions : Checked → Bool
names_regions (Err (Guarded i)) = true
names_regions (Ok u) = false
names_regions (Err BadBuffers) = false
names_regions (Err BadSettings) = false
names_regions (Err Ragged) = false
names_regions (Err Empty) = false
names_regions (Err (Refused i x)) = false
names_regions (Err (OtherFamily i)) = false
names_regions (Err (OtherTotal i)) = false
names_regions (Err (OtherKind i)) = false
names_regions (Err (SameNumber i j)) = false
names_regions (Err (Overlap i j)) = false
names_regions (Err (Missing k)) = false

-- after the first check: any other answer stays, and an image of the flash's length must be lent
unfoldable pub after_check : Settings → Lengths → ℕ → List ℕ → Checked → RegionsChecked
after_check s n d f x =
    cond (not (names_regions x)) (As x)
    (cond (not (eqb d n.flash)) (As (Err BadBuffers))
    (Named (regions_of s n f)))

-- a file f for a board with buffers of lengths n, with maps of a, b and c bytes and an image of d bytes lent
unfoldable pub check_regions_of : Settings → Lengths → ℕ → ℕ → ℕ → ℕ → List ℕ → RegionsChecked
check_regions_of s n a b c d f = after_check s n d f (check_of s n a b c f)

-- the numbers: the first check's, and 89 to 92
abbrev pub region_number : Result ⊤ RegionFault → ℕ
region_number (Ok u) = 89
region_number (Err (OtherRegion i k)) = 90
region_number (Err (BareSector i q)) = 91
region_number (Err (OtherDigest i)) = 92

abbrev pub regions_number : RegionsChecked → ℕ
regions_number (As x) = checked_number x
regions_number (Named x) = region_number x
