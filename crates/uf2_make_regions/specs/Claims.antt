-- What is read in each block of a file with a region for each sector (02, L1: "Reading each block gives back its fields"; L9: "the last 24 data
-- bytes give region start (a window address), length and MD5"). Proved in proofs/. Assumes nothing.
use Rattle.std.specs.Prelude.{ℕ, ◌+◌, ◌-◌, ◌*◌, ◌%◌, ◌<◌, ◌≤◌, ◌^◌, true, ◌≡◌, List, length, get_or, take, drop, Ok}
use Rattle.memory.specs.Many.{many}
use Rattle.uf2_block.specs.Block.{field_at, is_block}
use Rattle.md5_digest.specs.Md5.{md5_of, digest_bytes}
use Rattle.md5_digest.specs.declared.Digest.{Digest}
use Rattle.uf2_make_regions.specs.File.{make_of}

-- c is what a sector holds at the end, where it begins at `base` and an image begins at `start`: 4,096 bytes, the image's where it has one, else 0xFF
pub record FinalSector (image : List ℕ) (start base : ℕ) (c : List ℕ) : Type 0 where
  pub long : length c ≡ 4096
  pub pages : (j : ℕ) → j < 4096 → start ≤ base + j → base + j < start + length image → get_or c j 0 ≡ get_or image (base + j - start) 0
  pub before : (j : ℕ) → j < 4096 → base + j < start → get_or c j 0 ≡ 255
  pub after : (j : ℕ) → j < 4096 → start + length image ≤ base + j → get_or c j 0 ≡ 255

-- the four words of the digest that a block names
abbrev pub words_in : List ℕ → Digest
words_in b = record { a = field_at b 492; b = field_at b 496; c = field_at b 500; d = field_at b 504 }

-- 512 bytes that are read as block k of n, with flags 0x2000 and 0x4000 alone: the page and zeros, then a region that begins and ends with a
-- sector and is around the block, with the digest of what is there at the end
pub record Reads (image : List ℕ) (family start n k : ℕ) (b : List ℕ) : Type 0 where
  pub long : length b ≡ 512
  pub magic : is_block b ≡ true
  pub flags : field_at b 8 ≡ 0x6000
  pub address_back : field_at b 12 ≡ start + 256 * k
  pub size_back : field_at b 16 ≡ 256
  pub number_back : field_at b 20 ≡ k
  pub total_back : field_at b 24 ≡ n
  pub family_back : field_at b 28 ≡ family
  pub page_back : take 256 (drop 32 b) ≡ take 256 (drop (256 * k) image)
  pub padding : take 196 (drop 288 b) ≡ many 196 0
  pub sector : field_at b 484 % 4096 ≡ 0
  pub window : 0x10000000 ≤ field_at b 484
  pub before : field_at b 484 ≤ field_at b 12
  pub behind : field_at b 12 + 256 ≤ field_at b 484 + 4096
  pub one_sector : field_at b 488 ≡ 4096
  pub digest : (c : List ℕ) → FinalSector image start (field_at b 484) c → take 16 (drop 492 b) ≡ digest_bytes (md5_of c)
  pub words : (c : List ℕ) → FinalSector image start (field_at b 484) c → words_in b ≡ md5_of c

-- of every file that is made, each block, in number order
abbrev pub BlocksReadBack : Type 0
BlocksReadBack =
    (image out : List ℕ) (family start n : ℕ) → family < 2 ^ 32 → (make_of image family start out).answer ≡ Ok n
    → (k : ℕ) → k < n → Reads image family start n k (take 512 (drop (512 * k) (make_of image family start out).output))

-- "output past the last block stays"
abbrev pub RestStays : Type 0
RestStays =
    (image out : List ℕ) (family start n : ℕ) → (make_of image family start out).answer ≡ Ok n
    → drop (512 * n) (make_of image family start out).output ≡ drop (512 * n) out
