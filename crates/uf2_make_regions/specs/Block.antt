-- One block of a UF2 file that names a region for each sector (02, L1 and L9). Assumes nothing.
use Rattle.std.specs.Prelude.{ℕ, List, ◌++◌}
use Rattle.memory.specs.Many.{many}
use Rattle.uf2_block.specs.Write.{le32}
use Rattle.md5_digest.specs.Md5.{digest_bytes}
use Rattle.md5_digest.specs.declared.Digest.{Digest}

-- the fields before the data, as 01 has a block: two magic numbers, flags 0x2000 and 0x4000, address, payload size, number, total, family
unfoldable pub lead_bytes : ℕ → ℕ → ℕ → ℕ → List ℕ
lead_bytes address number total family =
    ((((((le32 0x0A324655 ++ le32 0x9E5D5157) ++ le32 0x6000) ++ le32 address) ++ le32 256) ++ le32 number) ++ le32 total) ++ le32 family

-- "the last 24 data bytes give region start (a window address), length and MD5": one sector
unfoldable pub region_bytes : ℕ → Digest → List ℕ
region_bytes base x = (le32 base ++ le32 4096) ++ digest_bytes x

-- a block: the page, zeros up to the region, the region, and the last magic number
unfoldable pub block_bytes : ℕ → ℕ → ℕ → ℕ → List ℕ → ℕ → Digest → List ℕ
block_bytes address number total family page base x =
    (((lead_bytes address number total family ++ page) ++ many 196 0) ++ region_bytes base x) ++ le32 0x0AB16F30
