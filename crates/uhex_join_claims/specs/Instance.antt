-- Two small files, so that the claims are not empty, and the filling at its edges. Computed in proofs/Instance.antt. Assumes nothing.
use Rattle.std.specs.Prelude.{ℕ, ◌≡◌, List, [], ◌∷◌, ◌++◌, map, length, take, replicate, Ok, Err}
use Rattle.laws.specs.Stores.{Store}
use Rattle.ihex_record.specs.Write.{record_text, record_line}
use Rattle.uhex_grammar.specs.Answers.{number_of}
use Rattle.uhex_grammar.specs.declared.Answer.TheVariants.{FileTooLong}
use Rattle.ihex_file.specs.Lines.{lines_of}
use Rattle.uhex_claims.specs.Lines.{fresh_session, read_all, line_answers, stores_of}
use Rattle.ihex_write.specs.Fill.{fill_lines}
use Rattle.uhex_join.specs.Text.{section_lines}
use Rattle.uhex_join.specs.Join.{refusal, join_of}
use Rattle.uhex_join_claims.specs.PlainFile.{at}

-- ---- two files

-- one byte at 1, and an 01 that ends with the file
unfoldable pub small : List ℕ
small = record_line 0x00 1 (0x41 ∷ []) ++ record_text 0x01 0 []

-- an 02 that is ended by CR LF, by which four bytes cross 65,536; a start record, and an empty data record; an 04, and a byte
unfoldable pub crossing : List ℕ
crossing =
    record_text 0x02 0 (0x00 ∷ 0x01 ∷ [])
    ++ (13 ∷ 10 ∷ record_line 0x00 0xFFEE (1 ∷ 2 ∷ 3 ∷ 4 ∷ []) ++ (record_line 0x03 0 (0 ∷ 0 ∷ 0 ∷ 0 ∷ [])
    ++ (record_line 0x00 7 [] ++ (record_line 0x04 0 (0 ∷ 0 ∷ []) ++ (record_line 0x00 3 (9 ∷ []) ++ record_line 0x01 0 [])))))

-- a room of n bytes
abbrev pub room_of : ℕ → List ℕ
room_of n = replicate n 46

-- the lines of their file
unfoldable pub lines : List (List ℕ)
lines = lines_of (take 1036 (join_of small crossing (room_of 1036)).room)

-- what a reader of a board with an image of eight bytes 0 makes of it: the numbers of its answers, what is stored, and the image
pub record Reads (own : ℕ) (answers : List ℕ) (stores : List Store) (image : List ℕ) : Type 0 where
  pub answered : map number_of (line_answers (fresh_session own (replicate 8 0)) lines) ≡ answers
  pub stored : stores_of (fresh_session own (replicate 8 0)) lines ≡ stores
  pub left : (read_all (fresh_session own (replicate 8 0)) lines).image ≡ image

-- their file has 1,036 bytes; V1 stores its byte; V2 its byte at 3, and not the two pieces on either side of 65,536, which are outside
unfoldable pub TwoAreJoined : Type 0
TwoAreJoined =
    ((join_of small crossing (room_of 1036)).answer ≡ Ok 1036)
    × ((join_of small crossing (room_of 1035)).answer ≡ Err (refusal 0 0 FileTooLong))
    × Reads 0x9900 (34 ∷ 34 ∷ 33 ∷ replicate 22 34 ++ (35 ∷ [])) (at 1 (0x41 ∷ []) ∷ []) (0 ∷ 0x41 ∷ 0 ∷ 0 ∷ 0 ∷ 0 ∷ 0 ∷ 0 ∷ [])
    × Reads 0x9903 (replicate 11 34 ++ (34 ∷ 34 ∷ 32 ∷ 34 ∷ 32 ∷ 34 ∷ 33 ∷ replicate 7 34 ++ (35 ∷ []))) (at 3 (9 ∷ []) ∷ []) (0 ∷ 0 ∷ 0 ∷ 9 ∷ 0 ∷ 0 ∷ 0 ∷ 0 ∷ [])

-- ---- the filling

-- how long its lines are, where m characters are missing beside an empty 0B: with 64 the 0B takes them all, with 66 an 0C stands before it
unfoldable pub FillsAt : Type 0
FillsAt =
    (map (λ (m : ℕ). map length (fill_lines m)) (0 ∷ 2 ∷ 62 ∷ 64 ∷ 66 ∷ 128 ∷ 130 ∷ 510 ∷ [])
    ≡ (12 ∷ []) ∷ (14 ∷ []) ∷ (74 ∷ []) ∷ (76 ∷ []) ∷ (64 ∷ 14 ∷ []) ∷ (64 ∷ 76 ∷ []) ∷ (64 ∷ 64 ∷ 14 ∷ []) ∷ (replicate 7 64 ++ (74 ∷ [])) ∷ [])

-- sections of V1 with five records of 32 bytes and one of n: 64, 66 and 62 are missing, and none beside two more of 16
unfoldable pub SectionsAt : Type 0
SectionsAt =
    map (λ (ns : List ℕ). map length (section_lines 0x9900 (map (λ (n : ℕ). at 0 (replicate n 0)) (replicate 5 32 ++ ns))))
    ((6 ∷ []) ∷ (5 ∷ []) ∷ (7 ∷ []) ∷ (16 ∷ 16 ∷ []) ∷ (16 ∷ 17 ∷ []) ∷ [])
    ≡ (16 ∷ 16 ∷ replicate 5 76 ++ (24 ∷ 76 ∷ []))
    ∷ (16 ∷ 16 ∷ replicate 5 76 ++ (22 ∷ 64 ∷ 14 ∷ []))
    ∷ (16 ∷ 16 ∷ replicate 5 76 ++ (26 ∷ 74 ∷ []))
    ∷ (16 ∷ 16 ∷ replicate 5 76 ++ (44 ∷ 44 ∷ 12 ∷ []))
    ∷ (16 ∷ 16 ∷ replicate 5 76 ++ (44 ∷ 46 ∷ replicate 7 64 ++ (74 ∷ [])))
    ∷ []
