-- "Reading each block gives back its fields" (02, L1). Assumes nothing.
use Rattle.std.specs.Prelude.{ℕ, ◌+◌, ◌*◌, ◌<◌, ◌^◌, true, ◌≡◌, List, ◌++◌, length, take, drop, Ok}
use Rattle.memory.specs.Many.{many}
use Rattle.uf2_block.specs.Block.{field_at, is_block}
use Rattle.uf2_make.specs.Uf2file.{page_of, make_of}

-- 512 bytes that are read as a block with these fields, "flag 0x2000 only", and with the page and then zeros as data
pub record Reads (b : List ℕ) (address number total family : ℕ) (page : List ℕ) : Type 0 where
  pub long : length b ≡ 512
  pub magic : is_block b ≡ true
  pub flags : field_at b 8 ≡ 0x2000
  pub address_back : field_at b 12 ≡ address
  pub size_back : field_at b 16 ≡ 256
  pub number_back : field_at b 20 ≡ number
  pub total_back : field_at b 24 ≡ total
  pub family_back : field_at b 28 ≡ family
  pub page_back : take 476 (drop 32 b) ≡ page ++ many 220 0

-- of every file that is made, each block, in number order
abbrev pub BlocksReadBack : Type 0
BlocksReadBack =
    (image out : List ℕ) (family start n : ℕ) → family < 2 ^ 32 → (make_of image family start out).answer ≡ Ok n
    → (k : ℕ) → k < n → Reads (take 512 (drop (512 * k) (make_of image family start out).output)) (start + 256 * k) k n family (page_of image k)

-- "output past the last block stays"
abbrev pub RestStays : Type 0
RestStays =
    (image out : List ℕ) (family start n : ℕ) → (make_of image family start out).answer ≡ Ok n
    → drop (512 * n) (make_of image family start out).output ≡ drop (512 * n) out
