-- A small file, so that the claims are not empty: a section of V1, padded to 512 bytes, a section of V2, and the 01. Computed in
-- proofs/Instance.antt. Assumes nothing.
use Rattle.std.specs.Prelude.{ℕ, ◌≡◌, List, [], ◌∷◌, ◌++◌, map, replicate}
use Rattle.laws.specs.Stores.{Store}
use Rattle.ihex_record.specs.Types.{data_type, end_of_file, extended_linear, block_start, block_end, padded_data, custom_data}
use Rattle.ihex_record.specs.Write.{record_line}
use Rattle.uhex_grammar.specs.Answers.{number_of}
use Rattle.uhex_claims.specs.Lines.{fresh_session, read_all, line_answers, stores_of}

-- the section's data: two bytes at 2, one of them again at 3, and two at 7
unfoldable pub section_v1 : List (List ℕ)
section_v1 =
    record_line extended_linear 0 (0 ∷ 0 ∷ [])
    ∷ record_line block_start 0 (0x99 ∷ 0x00 ∷ 0xC0 ∷ 0xDE ∷ [])
    ∷ record_line data_type 2 (0xAA ∷ 0xBB ∷ [])
    ∷ record_line data_type 3 (0xCC ∷ [])
    ∷ record_line data_type 7 (0xDD ∷ 0xEE ∷ [])
    ∷ record_line padded_data 0 (replicate 13 255)
    ∷ replicate 5 (record_line padded_data 0 (replicate 32 255)) ++ (record_line block_end 0 [] ∷ [])

-- the section's data: two bytes at 1
unfoldable pub section_v2 : List (List ℕ)
section_v2 =
    record_line extended_linear 0 (0 ∷ 0 ∷ [])
    ∷ record_line block_start 0 (0x99 ∷ 0x03 ∷ 0xC0 ∷ 0xDE ∷ [])
    ∷ record_line custom_data 1 (0x11 ∷ 0x22 ∷ [])
    ∷ record_line block_end 0 []
    ∷ []

-- the two sections, the 01, and a line after it
unfoldable pub file : List (List ℕ)
file = section_v1 ++ (section_v2 ++ (record_line end_of_file 0 [] ∷ record_line end_of_file 0 [] ∷ []))

-- what a reader of a board with an image of eight bytes 0 makes of it: the answers, the stores, and the image
pub record Reads (own : ℕ) (answers : List ℕ) (stores : List Store) (image : List ℕ) : Type 0 where
  pub answered : map number_of (line_answers (fresh_session own (replicate 8 0)) file) ≡ answers
  pub stored : stores_of (fresh_session own (replicate 8 0)) file ≡ stores
  pub left : (read_all (fresh_session own (replicate 8 0)) file).image ≡ image

-- bytes that were stored, from an address on
abbrev pub at : ℕ → List ℕ → Store
at address bytes = record { address = address; bytes = bytes }

-- by V1 and by V2: the other board's data is passed over, the data at 7 is outside the image, the latest byte at 3 stands
unfoldable pub FileReads : Type 0
FileReads =
    Reads 0x9900
    (34 ∷ 34 ∷ 33 ∷ 33 ∷ 32 ∷ 34 ∷ 34 ∷ 34 ∷ 34 ∷ 34 ∷ 34 ∷ 34 ∷ 34 ∷ 34 ∷ 34 ∷ 34 ∷ 35 ∷ 31 ∷ [])
    (at 2 (0xAA ∷ 0xBB ∷ []) ∷ at 3 (0xCC ∷ []) ∷ [])
    (0 ∷ 0 ∷ 0xAA ∷ 0xCC ∷ 0 ∷ 0 ∷ 0 ∷ 0 ∷ [])
    × Reads 0x9903
    (34 ∷ 34 ∷ 34 ∷ 34 ∷ 34 ∷ 34 ∷ 34 ∷ 34 ∷ 34 ∷ 34 ∷ 34 ∷ 34 ∷ 34 ∷ 34 ∷ 33 ∷ 34 ∷ 35 ∷ 31 ∷ [])
    (at 1 (0x11 ∷ 0x22 ∷ []) ∷ [])
    (0 ∷ 0x11 ∷ 0x22 ∷ 0 ∷ 0 ∷ 0 ∷ 0 ∷ 0 ∷ [])
