-- One block of a UF2 file that is made of an image (02, L1). Assumes nothing.
use Rattle.std.specs.Prelude.{ℕ, cond, ◌&&◌, List, ◌++◌, eqb, length}
use Rattle.memory.specs.Many.{many}
use Rattle.uf2_block.specs.Write.{le32}

-- the fields before the data, as 01 has a block: two magic numbers, flags ("flag 0x2000 only"), address, payload size, number, total, family
unfoldable pub lead_bytes : ℕ → ℕ → ℕ → ℕ → List ℕ
lead_bytes address number total family =
    ((((((le32 0x0A324655 ++ le32 0x9E5D5157) ++ le32 0x2000) ++ le32 address) ++ le32 256) ++ le32 number) ++ le32 total) ++ le32 family

-- a block: "data padded with zeros", from 256 bytes to 476, and the last magic number
unfoldable pub block_bytes : ℕ → ℕ → ℕ → ℕ → List ℕ → List ℕ
block_bytes address number total family page =
    ((lead_bytes address number total family ++ page) ++ many 220 0) ++ le32 0x0AB16F30

-- a block written over 512 bytes; where the page has not 256 bytes, or the output not 512, nothing is written
unfoldable pub block_over : List ℕ → ℕ → ℕ → ℕ → ℕ → List ℕ → List ℕ
block_over out address number total family page =
    cond (eqb (length out) 512 && eqb (length page) 256) (block_bytes address number total family page) out
