-- Files, settings and lists that meet the hypotheses of demand 3, so that they are not empty. Proved in proofs/Instance.antt.
-- Assumes nothing.
use Rattle.std.specs.Prelude.{ℕ, ◌+◌, ◌*◌, ◌≤◌, ◌≡◌, cond, List, [], ◌∷◌, eqb, replicate}
use Rattle.partitions.specs.Settings.{family_arm_s}
use Rattle.transfer.specs.declared.Kind.TheVariants.{Flash, MainRam, XipRam}
use Rattle.transfer.specs.declared.State.TheVariants.{Idle, Running}
use Rattle.arrival.specs.Arrive.{World}
use Rattle.demand.specs.Demand.{File, ValidFile, Sent, Mixed, seen_of, how_many, SameSet, Plain}
use Rattle.demand.specs.Stopped.{Stopped, ForeignToBoth}
use Rattle.examples.specs.Boards.{arrival_of, comment_of, plain, head_to, lent_to, lent_ram}
use Rattle.examples.specs.Tables.{block_of_three}

-- all that is asked of a start, a file, a list l and a list m by the theorems that speak of two lists with the same set (`SameSetSameEnd`); those
-- of two lists (`EitherFirst`) and of one (`ListEnds`) ask less
pub record Met (w : World) (F : File) (l m : List (List ℕ)) : Type 0 where
  pub idle : w.transfer ≡ Idle
  pub valid : ValidFile plain w F
  pub unguarded : Plain plain w F
  pub sent : Sent plain w F l
  pub sent_too : Sent plain w F m
  pub same : SameSet F l m

-- three blocks of arm-s, at pages 0, 1 and 2
abbrev pub file : File
file = record { total = 3; family = family_arm_s; kind = Flash; block = block_of_three }

-- "an Idle transfer, and flash and maps of any content"
abbrev pub start : World
start = lent_to Idle

-- blocks 2, 0, 2 again, one past the flash (answer 11), 1, and 0 again
abbrev pub arrivals : List (List ℕ)
arrivals = block_of_three 2 ∷ block_of_three 0 ∷ block_of_three 2 ∷ arrival_of 0x10010000 0 3 1 ∷ block_of_three 1 ∷ block_of_three 0 ∷ []

-- its blocks once each, in order
abbrev pub in_order : List (List ℕ)
in_order = block_of_three 0 ∷ block_of_three 1 ∷ block_of_three 2 ∷ []

-- the file is valid and names no region, each list is one of its blocks and foreign arrivals, and both have the same set
unfoldable pub HypothesesAreMet : Type 0
HypothesesAreMet = Met start file arrivals in_order

-- the same with a comment as block 1 (02, L3)
abbrev pub annotated : File
annotated = record { total = 3; family = family_arm_s; kind = Flash; block = λ k. cond (eqb k 1) (comment_of 1 3) (block_of_three k) }

-- blocks 2, the comment, one past the flash (answer 11), a comment of another number than its total has (answer 10), the comment again, and 0
abbrev pub annotated_arrivals : List (List ℕ)
annotated_arrivals =
    block_of_three 2 ∷ comment_of 1 3 ∷ arrival_of 0x10010000 0 3 1 ∷ comment_of 3 3 ∷ comment_of 1 3 ∷ block_of_three 0 ∷ []

-- and once each, in order
abbrev pub annotated_in_order : List (List ℕ)
annotated_in_order = block_of_three 0 ∷ comment_of 1 3 ∷ block_of_three 2 ∷ []

unfoldable pub MetWithAComment : Type 0
MetWithAComment = Met start annotated annotated_arrivals annotated_in_order

-- two comments and no data, all at one address
abbrev pub remarks : File
remarks = record { total = 2; family = family_arm_s; kind = Flash; block = λ k. comment_of k 2 }

unfoldable pub MetByCommentsAlone : Type 0
MetByCommentsAlone = Met start remarks (comment_of 1 2 ∷ comment_of 0 2 ∷ []) (comment_of 0 2 ∷ comment_of 1 2 ∷ [])

-- ---- RAM (02, L8)

-- block k of a file in XIP RAM, at a byte address, with 44 bytes between two blocks
abbrev pub ram_block : ℕ → List ℕ
ram_block k = arrival_of (0x13ffc001 + k * 300) k 3 k

abbrev pub ram_file : File
ram_file = record { total = 3; family = family_arm_s; kind = XipRam; block = ram_block }

-- a board with flash and XIP RAM
abbrev pub ram_start : World
ram_start = lent_ram Idle

-- blocks 2 and 0, one past the window's end (answer 11), one past the flash (11), a comment of another total (10), 2 again, and 1
abbrev pub ram_arrivals : List (List ℕ)
ram_arrivals =
    ram_block 2 ∷ ram_block 0 ∷ arrival_of 0x13ffff01 0 3 1 ∷ arrival_of 0x10010000 0 3 1 ∷ comment_of 0 257 ∷ ram_block 2 ∷ ram_block 1 ∷ []

abbrev pub ram_in_order : List (List ℕ)
ram_in_order = ram_block 0 ∷ ram_block 1 ∷ ram_block 2 ∷ []

unfoldable pub MetInRam : Type 0
MetInRam = Met ram_start ram_file ram_arrivals ram_in_order

-- one block, the last page of main RAM
abbrev pub main_file : File
main_file = record { total = 1; family = family_arm_s; kind = MainRam; block = λ k. arrival_of 0x20081f00 k 1 k }

-- a board with flash and main RAM
abbrev pub main_start : World
main_start =
    record {
      transfer = Idle;
      seen = start.seen;
      held = record { flash = start.held.flash; sectors = start.held.sectors; main = replicate 532480 5; xip = [] };
    }

-- it comes twice, or once
unfoldable pub MetInMainRam : Type 0
MetInMainRam = Met main_start main_file (main_file.block 0 ∷ main_file.block 0 ∷ []) (main_file.block 0 ∷ [])

-- ---- a stopped update (02, L13)

-- two of five blocks have come, and both maps are marked all over
abbrev pub stopped : World
stopped =
    record {
      transfer = Running (record { head = head_to Flash 5; count = 2 });
      seen = replicate 16384 255;
      held = record { flash = start.held.flash; sectors = replicate 1024 255; main = start.held.main; xip = start.held.xip };
    }

-- all that `StoppedThenGood` asks
pub record MetStopped (v w : World) (F : File) (l : List (List ℕ)) : Type 0 where
  pub before : Stopped F v w
  pub valid : ValidFile plain w F
  pub unguarded : Plain plain w F
  pub sent : Mixed F (ForeignToBoth plain v w F) l
  pub some : 1 ≤ how_many F (seen_of F l)

-- then the file of three blocks arrives: another total
unfoldable pub MetByAStoppedTransfer : Type 0
MetByAStoppedTransfer = MetStopped stopped start file arrivals
