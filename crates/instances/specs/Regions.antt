-- Files with regions (02, L9), and lists of their blocks, that meet the hypotheses of demand 3 for such files: one whose region stands in the flash
-- already, and one whose region is written. Proved in proofs/Regions.antt. Assumes nothing.
use Rattle.std.specs.Prelude.{ℕ, ◌+◌, ◌*◌, ◌≡◌, ◌≢◌, true, List, [], ◌∷◌, ◌++◌, replicate}
use Rattle.laws.specs.Bytes.{low_first}
use Rattle.md5_digest.specs.Md5.{md5_of, digest_bytes}
use Rattle.partitions.specs.Settings.{family_arm_s}
use Rattle.transfer.specs.declared.Kind.TheVariants.{Flash}
use Rattle.transfer.specs.declared.State.TheVariants.{Idle}
use Rattle.arrival.specs.Arrive.{World}
use Rattle.demand.specs.Demand.{File, ValidFile, is_guarded}
use Rattle.demand.specs.Regions.{Regions, Complete}
use Rattle.examples.specs.Boards.{plain, lent_filled, lent_to}

-- the final bytes of the region: a sector of 0xFF, of which some are payloads
abbrev pub final_bytes : List ℕ
final_bytes = replicate 4096 255

-- block k of n with these flags: a payload of 0xFF at page k, and after its data the flash's first sector and the digest of those bytes
abbrev pub naming_block : ℕ → ℕ → ℕ → List ℕ
naming_block flags k n =
    low_first 4 0x0A324655
    ++ low_first 4 0x9E5D5157
    ++ low_first 4 flags
    ++ low_first 4 (0x10000000 + k * 256)
    ++ low_first 4 256
    ++ low_first 4 k
    ++ low_first 4 n
    ++ low_first 4 family_arm_s
    ++ replicate 256 255
    ++ replicate 196 0
    ++ low_first 4 0x10000000
    ++ low_first 4 4096
    ++ digest_bytes (md5_of final_bytes)
    ++ low_first 4 0x0AB16F30

-- n such blocks, with flags 0x4000 and 0x2000
abbrev pub naming_file : ℕ → File
naming_file n = record { total = n; family = family_arm_s; kind = Flash; block = λ k. naming_block 0x6000 k n }

-- what is asked of a file and a list, with a region that counts
pub record Meets (w : World) (F : File) (l : List (List ℕ)) : Type 0 where
  pub valid : ValidFile plain w F
  pub guarded : is_guarded plain w F 0 ≡ true
  pub regions : Regions plain w F
  pub complete : Complete plain w F l

-- "The program's flash starts as 0xFF.": both blocks are kept
abbrev pub erased_start : World
erased_start = lent_filled 255 0 Idle

unfoldable pub MetWhereItStands : Type 0
MetWhereItStands = Meets erased_start (naming_file 2) (naming_block 0x6000 1 2 ∷ naming_block 0x6000 0 2 ∷ [])

-- a flash of other content, which has another digest: the block is stored
unfoldable pub MetWhereItIsWritten : Type 0
MetWhereItIsWritten =
    md5_of (replicate 4096 7) ≢ md5_of final_bytes → Meets (lent_to Idle) (naming_file 1) (naming_block 0x6000 0 1 ∷ [])
