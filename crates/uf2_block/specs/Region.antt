-- The region that a block names (02, L9): "Flag 0x4000: the last 24 data bytes give region start (a window address), length and MD5". They are
-- the arrival's bytes 484 to 507. Assumes nothing.
use Rattle.std.specs.Prelude.{ℕ, List}
use Rattle.uf2_block.specs.Block.{field_at}
use Rattle.uf2_block.specs.declared.Region.{Region}

-- start and length are little-endian, as all fields; the digest is in the order of RFC 1321, from the low-order byte of A on, and so each of its
-- words is little-endian too
unfoldable pub region_of : List ℕ → Region
region_of x =
    record {
      start = field_at x 484;
      len = field_at x 488;
      a = field_at x 492;
      b = field_at x 496;
      c = field_at x 500;
      d = field_at x 504;
    }
