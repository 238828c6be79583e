-- When what an arrival would store stands in the flash (02, L9: "Don't rewrite what is there."). Assumes nothing.
use Rattle.std.specs.Prelude.{ℕ, ◌+◌, ◌-◌, ◌%◌, ◌≤◌, ◌≡◌, ◌≢◌, true, false, List, length, take, drop, Some}
use Rattle.uf2_block.specs.Block.{field_at, has_flag}
use Rattle.md5_digest.specs.Md5.{md5_of}
use Rattle.md5_digest.specs.declared.Digest.{Digest}
use Rattle.partitions.specs.declared.Settings.{Settings}
use Rattle.placement.specs.Place.{place_of, place_from}
use Rattle.transfer.specs.declared.Kind.TheVariants.{Flash}
use Rattle.arrival.specs.Arrive.{World}
use Rattle.arrival.specs.Windows.{kind_of}

-- "MD5 (RFC 1321": the four words that the arrival names
abbrev pub digest_in : List ℕ → Digest
digest_in x = record { a = field_at x 492; b = field_at x 496; c = field_at x 500; d = field_at x 504 }

-- "For a flash data block", with flag 0x4000: "the region is whole sectors, not empty, within the place and around the block, and flash there has
-- that digest"
pub record Standing (s : Settings) (w : World) (a : List ℕ) : Type 0 where
  pub data_block : has_flag a 0x1 ≡ false
  pub flash : kind_of w a ≡ Flash
  pub flag : has_flag a 0x4000 ≡ true
  pub start : ℕ
  pub size : ℕ
  pub place : place_of s (length w.held.flash) (field_at a 28) ≡ Some (place_from start size)
  pub first : field_at a 484 % 4096 ≡ 0
  pub whole : field_at a 488 % 4096 ≡ 0
  pub some : field_at a 488 ≢ 0
  pub window : 0x10000000 ≤ field_at a 484
  pub within : field_at a 484 - 0x10000000 + field_at a 488 ≤ size
  pub before : field_at a 484 ≤ field_at a 12
  pub behind : field_at a 12 + 256 ≤ field_at a 484 + field_at a 488
  pub digest : md5_of (take (field_at a 488) (drop (start + (field_at a 484 - 0x10000000)) w.held.flash)) ≡ digest_in a
