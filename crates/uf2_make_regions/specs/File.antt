-- A UF2 file with a region for each sector, made of an image (02, L1 and L9). Assumes nothing.
use Rattle.std.specs.Prelude.{ℕ, ◌+◌, ◌*◌, ◌/◌, List, length}
use Rattle.laws.specs.Rows.{rows}
use Rattle.md5_digest.specs.Md5.{md5_of}
use Rattle.md5_digest.specs.declared.Digest.{Digest}
use Rattle.uf2_make.specs.Uf2check.{check_of}
use Rattle.uf2_make.specs.Uf2file.{page_of, MakeCall, make_call, output_of}
use Rattle.uf2_make_regions.specs.Sector.{sector_start, sector_of}
use Rattle.uf2_make_regions.specs.Block.{block_bytes}

-- the digest of a sector's final bytes
abbrev pub sector_digest : List ℕ → ℕ → ℕ → Digest
sector_digest image start base = md5_of (sector_of image start base)

-- block k, of as many as there are pages; its region is the sector that it lies in
unfoldable pub block_at : List ℕ → ℕ → ℕ → ℕ → List ℕ
block_at image family start k =
    block_bytes (start + 256 * k) k (length image / 256) family (page_of image k)
    (sector_start (start + 256 * k)) (sector_digest image start (sector_start (start + 256 * k)))

-- "write the UF2 blocks in number order"
unfoldable pub file_bytes : List ℕ → ℕ → ℕ → List ℕ
file_bytes image family start = rows (block_at image family start) (length image / 256)

-- a call: refusals, their order and what they leave are L1's
unfoldable pub make_of : List ℕ → ℕ → ℕ → List ℕ → MakeCall
make_of image family start out =
    make_call (check_of (length image) start (length out))
    (output_of (check_of (length image) start (length out)) (file_bytes image family start) out)
