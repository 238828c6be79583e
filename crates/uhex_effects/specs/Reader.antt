-- The reader, and what a good record does to it (01, "Universal Hex, a line at a time", rows 18 and 26 to 30). Assumes nothing.
use Rattle.std.specs.Prelude.{ℕ, ◌+◌, ◌%◌, Bool, false, ◌||◌, not, cond, ltb, eqb, Option, Some, None, Result, Ok, Err}
use Rattle.uhex_grammar.specs.Answers.{is_kept}
use Rattle.uhex_grammar.specs.Boards.{is_v1, is_v2, no_boards, has_board, with_board, both_boards}
use Rattle.uhex_grammar.specs.declared.Answer.{Answer}
use Rattle.uhex_grammar.specs.declared.Answer.TheVariants.{OutOfPlace, Unaligned, Repeated, Crosses, MissingBoard}
use Rattle.uhex_grammar.specs.declared.ReaderState.{ReaderState}
use Rattle.uhex_grammar.specs.declared.ReaderState.TheVariants.{Between, Opened, Inside, Padded, Ended, Failed}
use Rattle.uhex_grammar.specs.declared.Role.{Role}
use Rattle.uhex_grammar.specs.declared.Role.TheVariants.{Opening, Naming, Address, Data, Padding, Other, Closing, Ending}
use Rattle.uhex_effects.specs.declared.Reader.{Reader}
use Rattle.uhex_effects.specs.declared.Effect.{Effect}
use Rattle.uhex_effects.specs.declared.Effect.TheVariants.{Passes, Stores, Ends}

-- "a fresh hex reader stands before the first section"
abbrev pub fresh_of : ℕ → Reader
fresh_of own =
    record { own = own; offset = 0; state = Between; upper = 0; sections_seen = no_boards; data_seen = no_boards }

-- ---- row 18: "own board neither of these, offset over the limit, or a remembered failure that isn't 20 to 30 or 36"

-- "a remembered failure that isn't 20 to 30 or 36", and "one handed in with 22 and a position outside 1 to 520" (02)
unfoldable pub bad_failure : ReaderState → Bool
bad_failure Between = false
bad_failure Opened = false
bad_failure (Inside b) = false
bad_failure (Padded b) = false
bad_failure Ended = false
bad_failure (Failed f) = not (is_kept f.answer)

-- the three of them; the own board is "V1 0x9900 or V2 0x9903", the limit 4,194,304
unfoldable pub bad_reader : Reader → Bool
bad_reader r = not (is_v1 r.own || is_v2 r.own) || ltb 4194304 r.offset || bad_failure r.state

-- ---- a reader with one thing changed

-- where it stands in the grammar
unfoldable pub with_state : Reader → ReaderState → Reader
with_state r s =
    record { own = r.own; offset = r.offset; state = s; upper = r.upper; sections_seen = r.sections_seen; data_seen = r.data_seen }

-- the latest 04's two bytes
unfoldable pub with_upper : Reader → ℕ → Reader
with_upper r u =
    record { own = r.own; offset = r.offset; state = r.state; upper = u; sections_seen = r.sections_seen; data_seen = r.data_seen }

-- a board's section has come
unfoldable pub with_section : Reader → ℕ → Reader
with_section r b =
    record { own = r.own; offset = r.offset; state = r.state; upper = r.upper; sections_seen = with_board r.sections_seen b; data_seen = r.data_seen }

-- a board's section gave a data byte
unfoldable pub with_data : Reader → ℕ → Reader
with_data r b =
    record { own = r.own; offset = r.offset; state = r.state; upper = r.upper; sections_seen = r.sections_seen; data_seen = with_board r.data_seen b }

-- its offset: the bytes of the lines that were taken
unfoldable pub moved_to : Reader → ℕ → Reader
moved_to r e =
    record { own = r.own; offset = e; state = r.state; upper = r.upper; sections_seen = r.sections_seen; data_seen = r.data_seen }

-- ---- a good record: its address field, the number of its data bytes, and the first two of them as a number, high first

-- data of a board: own data of at least one byte is to be stored
unfoldable pub given_of : Reader → ℕ → ℕ → Effect
given_of r board len =
    cond (eqb len 0) (Passes r) (cond (eqb board r.own) (Stores (with_data r board)) (Passes (with_data r board)))

-- row 26 refuses what the grammar does not allow; row 27 an opening 04 "at an offset that is no multiple of 512"; row 28 "a second V1 or
-- V2 section"; row 29 data "with address field + length over 65,536"; row 30 "01 before V1 and V2 each gave a data byte"
unfoldable pub effect_of : Reader → Option Role → ℕ → ℕ → ℕ → Result Effect Answer
effect_of r (Some Opening) address len word =
    cond (not (eqb (r.offset % 512) 0)) (Err Unaligned) (Ok (Passes (with_state (with_upper r word) Opened)))
effect_of r (Some Naming) address len word =
    cond (has_board r.sections_seen word) (Err Repeated) (Ok (Passes (with_state (with_section r word) (Inside word))))
effect_of r (Some Address) address len word = Ok (Passes (with_upper r word))
effect_of r (Some (Data board)) address len word = cond (ltb 65536 (address + len)) (Err Crosses) (Ok (given_of r board len))
effect_of r (Some (Padding board)) address len word = Ok (Passes (with_state r (Padded board)))
effect_of r (Some Other) address len word = Ok (Passes r)
effect_of r (Some Closing) address len word = Ok (Passes (with_state r Between))
effect_of r (Some Ending) address len word = cond (both_boards r.data_seen) (Ok (Ends (with_state r Ended))) (Err MissingBoard)
effect_of r None address len word = Err OutOfPlace
