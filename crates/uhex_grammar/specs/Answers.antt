-- The answers to a line (01, "Universal Hex, a line at a time"). Assumes nothing.
use Rattle.std.specs.Prelude.{ℕ, Bool, ◌&&◌, ◌||◌, not, leb, eqb, Ok, Err}
use Rattle.ihex_record.specs.Record.{ParseResult}
use Rattle.ihex_record.specs.declared.LineError.TheVariants as error
use Rattle.uhex_grammar.specs.declared.Answer.{Answer}
use Rattle.uhex_grammar.specs.declared.Answer.TheVariants.{BadReader, BadImage, NoColon, BadShape, BadDigit, TooLong, BadLength, BadSum, OutOfPlace, Unaligned, Repeated, Crosses, MissingBoard, AfterEnd, Outside, Stored, Passed, Ended, FileTooLong}

-- 01's numbers of the answers
abbrev pub number_of : Answer → ℕ
number_of BadReader = 18
number_of BadImage = 19
number_of NoColon = 20
number_of BadShape = 21
number_of (BadDigit p) = 22
number_of TooLong = 23
number_of BadLength = 24
number_of BadSum = 25
number_of OutOfPlace = 26
number_of Unaligned = 27
number_of Repeated = 28
number_of Crosses = 29
number_of MissingBoard = 30
number_of AfterEnd = 31
number_of Outside = 32
number_of Stored = 33
number_of Passed = 34
number_of Ended = 35
number_of FileTooLong = 36

-- the value of the one that has one: "BadDigit shall give the position of the first bad character" (02); 0 stands for none
abbrev pub position_of : Answer → ℕ
position_of BadReader = 0
position_of BadImage = 0
position_of NoColon = 0
position_of BadShape = 0
position_of (BadDigit p) = p
position_of TooLong = 0
position_of BadLength = 0
position_of BadSum = 0
position_of OutOfPlace = 0
position_of Unaligned = 0
position_of Repeated = 0
position_of Crosses = 0
position_of MissingBoard = 0
position_of AfterEnd = 0
position_of Outside = 0
position_of Stored = 0
position_of Passed = 0
position_of Ended = 0
position_of FileTooLong = 0

-- "20 to 30 and 36 make the reader failed"
abbrev pub is_failure : Answer → Bool
is_failure a = leb 20 (number_of a) && leb (number_of a) 30 || eqb (number_of a) 36

-- "22 and a position outside 1 to 520" (02)
abbrev pub bad_position : Answer → Bool
bad_position a = eqb (number_of a) 22 && not (leb 1 (position_of a) && leb (position_of a) 520)

-- a failure that a reader may remember
unfoldable pub is_kept : Answer → Bool
is_kept a = is_failure a && not (bad_position a)

-- the answers of rows 20 to 25; a good record gets none of them, and nothing asks for its
abbrev pub refusal_of : ParseResult → Answer
refusal_of (Err error.NoColon) = NoColon
refusal_of (Err error.BadShape) = BadShape
refusal_of (Err (error.BadDigit p)) = BadDigit p
refusal_of (Err error.TooLong) = TooLong
refusal_of (Err error.BadLength) = BadLength
refusal_of (Err error.BadSum) = BadSum
refusal_of (Ok rec) = NoColon
