-- Files of one to three pieces and what the check answers, in a table, and the one statement over it: each answer is met. Proved in
-- proofs/CheckFiles.antt. Assumes nothing.
use Rattle.std.specs.Prelude.{ℕ, ◌≡◌, List, [], ◌∷◌, ◌++◌, map, take, replicate, Ok, Err}
use Rattle.laws.specs.Bytes.{low_first}
use Rattle.laws.specs.Over.{over}
use Rattle.partitions.specs.Settings.{family_absolute}
use Rattle.partitions.specs.declared.Settings.{Settings}
use Rattle.transfer.specs.declared.Answer.TheVariants.{NotBlock, BadAddress}
use Rattle.uf2_checks.specs.declared.Lengths.{Lengths}
use Rattle.examples.specs.Boards.{block_of, block_with, arrival_of, comment_of, plain, two_entries}
use Rattle.file_check.specs.declared.FileFault.TheVariants.{BadBuffers, BadSettings, Ragged, Empty, Refused, OtherFamily, OtherTotal, OtherKind, SameNumber, Overlap, Missing, Guarded}
use Rattle.file_check.specs.Check.{Checked, check_of}
use Rattle.file_check.specs.Valid.{answer_to}

-- a flash of 65,536 bytes and both RAM buffers
abbrev buffers : Lengths
buffers = record { flash = 65536; main = 532480; xip = 16384 }

-- what is answered to a file, and what has to be
pub record Example : Type 0 where
  pub answer : Checked
  pub expected : Checked

-- by a board with these buffers, Arm alone and no table
abbrev file : List ℕ → Checked → Example
file f x = record { answer = answer_to plain buffers f; expected = x }

-- a data block of two at an address
abbrev first : ℕ → List ℕ
first address = arrival_of address 0 2 1

abbrev second : ℕ → List ℕ
second address = arrival_of address 1 2 2

-- a block alone that names a region from the flash's start on, of so many bytes
abbrev naming : ℕ → List ℕ
naming len = over (block_with 0x6000 0x10000000 256 0 1 1) 484 (low_first 4 0x10000000 ++ low_first 4 len)

unfoldable pub file_examples : List Example
file_examples =
    -- in order, and the other way round; with a comment; in main RAM at an odd address, and where two ranges meet; in XIP RAM
    file (first 0x10000000 ++ second 0x10000100) (Ok tt)
    ∷ file (second 0x10000100 ++ first 0x10000000) (Ok tt)
    ∷ file (first 0x10000000 ++ comment_of 1 2) (Ok tt)
    ∷ file (first 0x20000001 ++ second 0x20000101) (Ok tt)
    ∷ file (second 0x200000ff ++ first 0x200001ff) (Ok tt)
    ∷ file (first 0x13ffc000 ++ second 0x13ffff00) (Ok tt)
    -- 1 and 2
    ∷ record { answer = check_of plain buffers 16384 16384 2079 (first 0x10000000); expected = Err BadBuffers }
    ∷ record { answer = answer_to (two_entries 17) buffers (first 0x10000000); expected = Err BadSettings }
    -- 80 and 81
    ∷ file (take 511 (first 0x10000000)) (Err Ragged)
    ∷ file [] (Err Empty)
    -- 4 to 11, before what the first piece says
    ∷ file (first 0x10000000 ++ replicate 512 0) (Err (Refused 1 NotBlock))
    ∷ file (first 0x10000000 ++ arrival_of 0x10000101 1 3 2) (Err (Refused 1 BadAddress))
    -- 82 to 84, in their order
    ∷ file (first 0x10000000 ++ block_of family_absolute 0x2000 0x10000100 256 1 3 2) (Err (OtherFamily 1))
    ∷ file (first 0x10000000 ++ arrival_of 0x20000000 1 3 2) (Err (OtherTotal 1))
    ∷ file (first 0x10000000 ++ second 0x20000000) (Err (OtherKind 1))
    ∷ file (first 0x20000000 ++ comment_of 1 2) (Err (OtherKind 1))
    -- 85: data and a comment; 86: of the same address, and of ranges with one byte in common
    ∷ file (first 0x10000000 ++ arrival_of 0x10000100 0 2 2) (Err (SameNumber 1 0))
    ∷ file (first 0x10000000 ++ comment_of 0 2) (Err (SameNumber 1 0))
    ∷ file (first 0x10000000 ++ second 0x10000000) (Err (Overlap 1 0))
    ∷ file (first 0x200000ff ++ second 0x200001fe) (Err (Overlap 1 0))
    ∷ file (first 0x200001fe ++ second 0x200000ff) (Err (Overlap 1 0))
    -- 87 and 88: a region of a sector counts, one of no whole sectors does not
    ∷ file (first 0x10000000) (Err (Missing 1))
    ∷ file (second 0x10000000) (Err (Missing 0))
    ∷ file (naming 4096) (Err (Guarded 0))
    ∷ file (naming 4095) (Ok tt)
    ∷ []

unfoldable pub FileExamplesHold : Type 0
FileExamplesHold = map (λ (e : Example). e.answer) file_examples ≡ map (λ (e : Example). e.expected) file_examples
