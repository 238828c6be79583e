-- A UF2 block (01, "A UF2 block"): its fields, and what its header says. Assumes nothing.
use Rattle.std.specs.Prelude.{ℕ, ◌/◌, ◌%◌, Bool, not, cond, ◌&&◌, List, eqb, Result, Ok, Err}
use Rattle.uf2_block.specs.declared.Block.{Block}
use Rattle.uf2_block.specs.declared.HeaderError.{HeaderError}
use Rattle.uf2_block.specs.declared.HeaderError.TheVariants.{NotBlock, Container, NoFamily}
-- fields, from `words`
unfoldable pub use Rattle.uf2_block.specs.Field.{field_at}

-- what a header yields: a block, or a refusal
abbrev pub Header : Type 0
Header = Result Block HeaderError

-- "8 flags": is the flag of weight f set?
abbrev pub has_flag : List ℕ → ℕ → Bool
has_flag a f = eqb (field_at a 8 / f % 2) 1

-- "12 address, 16 payload size, 20 block number, 24 total, 28 family", and whether it is a comment (02, L3): flag 0x1, "not main flash"
unfoldable pub fields_of : List ℕ → Block
fields_of a =
    record {
      address = field_at a 12;
      size = field_at a 16;
      number = field_at a 20;
      total = field_at a 24;
      family = field_at a 28;
      comment = has_flag a 0x1;
    }

-- "Flags: .. 0x1000 container, 0x2000 family present", asked in the order of answers 5 ("also when 0x1 is set") and 7
unfoldable pub flagged_of : List ℕ → Header
flagged_of a =
    cond (has_flag a 0x1000) (Err Container)
    (cond (not (has_flag a 0x2000)) (Err NoFamily)
    (Ok (fields_of a)))

-- row 4 alone, for those who ask no later row: "0 magic 0x0A324655, 4 magic 0x9E5D5157, .. 508 magic 0x0AB16F30"
unfoldable pub is_block : List ℕ → Bool
is_block a = eqb (field_at a 0) 0x0A324655 && eqb (field_at a 4) 0x9E5D5157 && eqb (field_at a 508) 0x0AB16F30

-- "Read the header first; if that yields no block, no other field counts": "0 magic 0x0A324655, 4 magic 0x9E5D5157, .. 508 magic 0x0AB16F30"
unfoldable pub header_of : List ℕ → Header
header_of a =
    cond (not (eqb (field_at a 0) 0x0A324655)) (Err NotBlock)
    (cond (not (eqb (field_at a 4) 0x9E5D5157)) (Err NotBlock)
    (cond (not (eqb (field_at a 508) 0x0AB16F30)) (Err NotBlock)
    (flagged_of a)))

-- the numbers of the refusals; a block is none, and has 0
abbrev pub header_number : Header → ℕ
header_number (Err NotBlock) = 4
header_number (Err Container) = 5
header_number (Err NoFamily) = 7
header_number (Ok b) = 0
