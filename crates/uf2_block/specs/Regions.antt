-- When a region that a block names with flag 0x4000 counts, and when the flash has its digest (02, L9): "if the region is whole sectors, not
-- empty, within the place and around the block, and flash there has that digest". Assumes nothing.
use Rattle.std.specs.Prelude.{ℕ, ◌+◌, ◌-◌, ◌%◌, Bool, not, ◌&&◌, List, eqb, leb, length, take, drop}
use Rattle.uf2_block.specs.declared.Region.{Region}
use Rattle.md5_digest.specs.declared.Digest.{Digest}
use Rattle.md5_digest.specs.Md5.{md5_of}

-- "whole sectors": it begins and ends with a sector; "not empty"; "within the place": of `size` bytes, which is seen from 0x10000000 on; "and
-- around the block", whose 256 bytes are at `address`
unfoldable pub good_region : ℕ → ℕ → Region → Bool
good_region size address g =
    eqb (g.start % 4096) 0
    && eqb (g.len % 4096) 0
    && not (eqb g.len 0)
    && leb 0x10000000 g.start
    && leb (g.start - 0x10000000 + g.len) size
    && leb g.start address
    && leb (address + 256) (g.start + g.len)

-- its digest is the four words that the block names
unfoldable pub same_digest : Digest → Region → Bool
same_digest x g = eqb x.a g.a && eqb x.b g.b && eqb x.c g.c && eqb x.d g.d

-- where it begins in the flash: "region start (a window address)", so "place start + block address - 0x10000000", as a block's
abbrev pub from_of : ℕ → Region → ℕ
from_of start g = start + (g.start - 0x10000000)

-- its bytes in the flash, of a place that starts at `start`
abbrev pub part_of : List ℕ → ℕ → Region → List ℕ
part_of flash start g = take g.len (drop (from_of start g) flash)

-- "flash there has that digest"; a region that does not lie in the flash has none, and none such is good in a place of it
unfoldable pub stands_in : List ℕ → ℕ → Region → Bool
stands_in flash start g =
    leb 0x10000000 g.start
    && leb (from_of start g + g.len) (length flash)
    && same_digest (md5_of (part_of flash start g)) g
