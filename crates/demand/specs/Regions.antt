-- Demand 3 of files with regions (02, L9): "Demand 3 for such files speaks of flash at completion only, never of the sector map." What holds of any
-- file at any time is in Demand.antt (`ListCounts`, `OtherKindsStay`, `ListAnswers`, `CompletedExactly`). Proved in proofs/Regions.antt.
-- Assumes nothing.
use Rattle.std.specs.Prelude.{ℕ, ◌+◌, ◌-◌, ◌*◌, ◌≤◌, ◌<◌, ◌≡◌, Bool, true, false, ◌&&◌, List, [], leb, ltb, length, get_or, take, drop}
use Rattle.laws.specs.Sets.{any}
use Rattle.memory.specs.Flash.{payload_of}
use Rattle.uf2_block.specs.Block.{field_at, has_flag}
use Rattle.md5_digest.specs.Md5.{md5_of}
use Rattle.partitions.specs.declared.Settings.{Settings}
use Rattle.transfer.specs.declared.Kind.TheVariants.{Flash}
use Rattle.transfer.specs.declared.State.TheVariants.{Idle}
use Rattle.arrival.specs.Arrive.{World}
use Rattle.arrival.specs.Lists.{receive_all, AtEach}
use Rattle.arrival.specs.Standing.{digest_in}
use Rattle.demand.specs.Demand.{File, answer_number, is_data, ValidFile, Sent, seen_of, how_many, origin_of, storage_of, holds, lies_in, is_guarded, Contents, SameCount}

-- ---- the region that block i names

-- where it begins in the flash: "region start (a window address)"; its length; its bytes of a flash
abbrev pub region_start : Settings → World → File → ℕ → ℕ
region_start s w F i = origin_of s w Flash F.family + (field_at (F.block i) 484 - 0x10000000)

abbrev pub region_length : File → ℕ → ℕ
region_length F i = field_at (F.block i) 488

abbrev pub region_in : Settings → World → File → ℕ → List ℕ → List ℕ
region_in s w F i flash = take (region_length F i) (drop (region_start s w F i) flash)

-- byte j of the flash lies in it
abbrev pub in_region : Settings → World → File → ℕ → ℕ → Bool
in_region s w F i j = leb (region_start s w F i) j && ltb j (region_start s w F i + region_length F i)

-- c has its final bytes: the payloads, and 0xFF beside them
pub record Final (s : Settings) (w : World) (F : File) (i : ℕ) (c : List ℕ) : Type 0 where
  pub whole : length c ≡ region_length F i
  pub payloads : (k : ℕ) → k < F.total → is_data F k ≡ true → in_region s w F i (storage_of s w F k) ≡ true → (j : ℕ) → j < 256
      → get_or c (storage_of s w F k - region_start s w F i + j) 0 ≡ get_or (payload_of (F.block k)) j 0
  pub erased : (j : ℕ) → j < region_length F i → any F.total (λ k. holds s w F k (region_start s w F i + j)) ≡ false → get_or c j 0 ≡ 255

-- ---- what is asked of the file

pub record Regions (s : Settings) (w : World) (F : File) : Type 0 where
  -- "It asks that every data block in a region carry that same region,"
  pub same : (i k : ℕ) → i < F.total → k < F.total → is_guarded s w F i ≡ true → is_data F k ≡ true
      → in_region s w F i (storage_of s w F k) ≡ true
      → (has_flag (F.block k) 0x4000 ≡ true) × (field_at (F.block k) 484 ≡ field_at (F.block i) 484) × (field_at (F.block k) 488 ≡ field_at (F.block i) 488)
  -- "that every sector of it have one,"
  pub every : (i q : ℕ) → i < F.total → is_guarded s w F i ≡ true → in_region s w F i (q * 4096) ≡ true
      → any F.total (λ k. lies_in s w F k q) ≡ true
  -- "that the digest be of the final bytes,"
  pub right : (i : ℕ) → i < F.total → is_guarded s w F i ≡ true → (c : List ℕ) → Final s w F i c → md5_of c ≡ digest_in (F.block i)

-- "and of no other content met": where block i comes to v and is accepted ("that would be 14 or 15"), and v's flash has the digest of its region, the
-- bytes there are the final ones. Nothing is asked of other regions, nor where no flash is read.
abbrev pub NoOther : Settings → World → File → World → List ℕ → Type 0
NoOther s w F v a =
    (i : ℕ) → i < F.total → F.block i ≡ a → 14 ≤ answer_number s v a → is_guarded s w F i ≡ true
    → md5_of (region_in s w F i v.held.flash) ≡ digest_in (F.block i) → Final s w F i (region_in s w F i v.held.flash)

-- ---- the claims

-- a list in which the file is whole, and no other content is met
pub record Complete (s : Settings) (w : World) (F : File) (l : List (List ℕ)) : Type 0 where
  pub sent : Sent s w F l
  pub met : AtEach (NoOther s w F) s w l
  pub whole : how_many F (seen_of F l) ≡ F.total

-- at completion the buffers are as without regions
unfoldable pub RegionsEnd : Type 0
RegionsEnd =
    (s : Settings) (w : World) (F : File) → w.transfer ≡ Idle → ValidFile s w F → Regions s w F
    → (l : List (List ℕ)) → Complete s w F l → Contents s w F (seen_of F l) (receive_all s w l)

-- all but the sector map is the same
pub record WholeSame (x y : World) : Type 0 where
  pub count : SameCount x y
  pub flash : x.held.flash ≡ y.held.flash
  pub main : x.held.main ≡ y.held.main
  pub xip : x.held.xip ≡ y.held.xip

-- "Two such lists with the same set, from the same start, end alike."
unfoldable pub WholeAlike : Type 0
WholeAlike =
    (s : Settings) (w : World) (F : File) → w.transfer ≡ Idle → ValidFile s w F → Regions s w F
    → (l m : List (List ℕ)) → Complete s w F l → Complete s w F m → WholeSame (receive_all s w l) (receive_all s w m)
