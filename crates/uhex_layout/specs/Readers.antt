-- Hex readers as bytes. Every number below is a byte, or a field of two or of four (`field_at`). Assumes nothing.
use Rattle.std.specs.Prelude.{ℕ, ◌-◌, Bool, cond, List, [], ◌∷◌, ◌++◌, leb, eqb, length, get_or}
use Rattle.laws.specs.Bytes.{low_first, number_in}
use Rattle.uf2_block.specs.Block.{field_at}
use Rattle.uf2_block.specs.Write.{le32}
use Rattle.settings_layout.specs.Layout.{byte_at, is_on}
use Rattle.uhex_grammar.specs.Answers.{number_of, position_of}
use Rattle.uhex_grammar.specs.declared.Answer.{Answer}
use Rattle.uhex_grammar.specs.declared.Answer.TheVariants.{BadReader, BadImage, NoColon, BadShape, BadDigit, TooLong, BadLength, BadSum, OutOfPlace, Unaligned, Repeated, Crosses, MissingBoard, AfterEnd, Outside, Stored, Passed, Ended, FileTooLong}
use Rattle.uhex_grammar.specs.declared.Boards.{Boards}
use Rattle.uhex_grammar.specs.declared.ReaderState.{ReaderState}
use Rattle.uhex_grammar.specs.declared.ReaderState.TheVariants as state
use Rattle.uhex_effects.specs.Reader.{fresh_of}
use Rattle.uhex_effects.specs.declared.Reader.{Reader}
use Rattle.uhex_layout.specs.declared.StateCode.{StateCode}

-- ---- read

-- a little-endian 16-bit field
abbrev pub half_at : List ℕ → ℕ → ℕ
half_at b at = number_in 2 b at

-- the answers from 18 to 36; p is the position of a bad digit
unfoldable pub all_answers : ℕ → List Answer
all_answers p =
    BadReader
    ∷ BadImage
    ∷ NoColon
    ∷ BadShape
    ∷ BadDigit p
    ∷ TooLong
    ∷ BadLength
    ∷ BadSum
    ∷ OutOfPlace
    ∷ Unaligned
    ∷ Repeated
    ∷ Crosses
    ∷ MissingBoard
    ∷ AfterEnd
    ∷ Outside
    ∷ Stored
    ∷ Passed
    ∷ Ended
    ∷ FileTooLong
    ∷ []

-- the answer of a number, and of a position where it has one; a number that is no answer is read as 18, which row 18 refuses in a failure
-- (proofs/Refused.antt)
unfoldable pub answer_from : ℕ → ℕ → Answer
answer_from n p = get_or (all_answers p) (n - 18) BadReader

-- where a reader stands (0 Between, 1 Opened, 2 Inside, 3 Padded, 4 Ended, 5 Failed), the remembered failure, and two bytes: the section's
-- board, or the failure's position
unfoldable pub reader_state_from : ℕ → ℕ → ℕ → ReaderState
reader_state_from kind failure half =
    cond (eqb kind 0) state.Between
    (cond (eqb kind 1) state.Opened
    (cond (eqb kind 2) (state.Inside half)
    (cond (eqb kind 3) (state.Padded half)
    (cond (eqb kind 4) state.Ended
    (state.Failed (record { answer = answer_from failure half }))))))

-- 8 where it stands, 9 the remembered failure, 10 board of the section or position of the failure
abbrev pub state_at : List ℕ → ReaderState
state_at b = reader_state_from (byte_at b 8) (byte_at b 9) (half_at b 10)

-- of V1 and of V2, each a flag
abbrev pub boards_from : ℕ → ℕ → Boards
boards_from a b = record { v1 = is_on a; v2 = is_on b }

-- 0 own board, 2 upper address, 4 offset, 8 to 11 its state, 12 V1's section came, 13 V2's, 14 V1 gave a data byte, 15 V2 did
unfoldable pub fields_from : List ℕ → Reader
fields_from b =
    record {
      own = half_at b 0;
      offset = field_at b 4;
      state = state_at b;
      upper = half_at b 2;
      sections_seen = boards_from (byte_at b 12) (byte_at b 13);
      data_seen = boards_from (byte_at b 14) (byte_at b 15);
    }

-- a reader of no board, which row 18 refuses (proofs/Refused.antt)
abbrev pub no_reader : Reader
no_reader = fresh_of 0

-- bytes of any other length are no reader, and neither is one that stands over 5
unfoldable pub reader_from : List ℕ → Reader
reader_from b = cond (eqb (length b) 16) (cond (leb (byte_at b 8) 5) (fields_from b) no_reader) no_reader

-- ---- written

-- the two bytes of x, the lowest first
abbrev pub le16 : ℕ → List ℕ
le16 x = low_first 2 x

-- the kind of a state, with the remembered failure, and the section's board or the failure's position
abbrev pub state_code : ℕ → ℕ → ℕ → StateCode
state_code kind failure half = record { kind = kind; failure = failure; half = half }

-- a failure's number only where failed, its position only by 22, a board only where in a section
abbrev pub state_code_of : ReaderState → StateCode
state_code_of state.Between = state_code 0 0 0
state_code_of state.Opened = state_code 1 0 0
state_code_of (state.Inside b) = state_code 2 0 b
state_code_of (state.Padded b) = state_code 3 0 b
state_code_of state.Ended = state_code 4 0 0
state_code_of (state.Failed f) = state_code 5 (number_of f.answer) (position_of f.answer)

-- a flag as a byte
abbrev pub flag_of : Bool → ℕ
flag_of on = cond on 1 0

-- of V1, then of V2
abbrev pub boards_bytes : Boards → List ℕ
boards_bytes s = flag_of s.v1 ∷ flag_of s.v2 ∷ []

-- 8 kind, 9 failure, 10 board or position
unfoldable pub state_code_bytes : StateCode → List ℕ
state_code_bytes t = t.kind ∷ t.failure ∷ le16 t.half

-- the bytes of a reader
unfoldable pub reader_bytes : Reader → List ℕ
reader_bytes r =
    le16 r.own
    ++ (le16 r.upper
    ++ (le32 r.offset
    ++ (state_code_bytes (state_code_of r.state) ++ (boards_bytes r.sections_seen ++ boards_bytes r.data_seen))))

-- a reader written over bytes, where there are 16
unfoldable pub reader_written : List ℕ → Reader → List ℕ
reader_written b r = cond (eqb (length b) 16) (reader_bytes r) b
