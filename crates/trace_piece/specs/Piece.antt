-- One piece of a trace by itself (02, L10). Assumes nothing.
use Rattle.std.specs.Prelude.{ℕ, ◌/◌, ◌%◌, Bool, true, false, ◌&&◌, ◌||◌, not, cond, List, Option, Some, None, Result, Ok, Err, eqb, length, get_or, drop}
use Rattle.laws.specs.Sets.{one}
use Rattle.transfer.specs.Transfer.{number_of}
use Rattle.transfer.specs.declared.Answer.{Answer}
use Rattle.trace_piece.specs.declared.PieceError.{PieceError}
use Rattle.trace_piece.specs.declared.PieceError.TheVariants as piece
use Rattle.trace_piece.specs.declared.Stop.{Stop}
use Rattle.trace_piece.specs.declared.Stop.TheVariants as stop

-- "one byte, top bits first, with answer (5 bits), discarded (1), two zeros, then the arrival"
abbrev pub recorded : List ℕ → ℕ
recorded p = get_or p 0 0

abbrev pub arrival_in : List ℕ → List ℕ
arrival_in p = drop 1 p

-- "short or has stray bits"; a piece of a trace never has more than 513 bytes
unfoldable pub is_bad : List ℕ → Bool
is_bad p = not (eqb (length p) 513) || not (eqb (recorded p % 4) 0)

-- what the byte of a record says is our answer and our "discarded"
unfoldable pub agrees : ℕ → Answer → Bool → Bool
agrees b x d = eqb (b / 8) (number_of x) && eqb (b / 4 % 2) (one d)

-- what comes of a record
abbrev pub compared_of : ℕ → Answer → Bool → Result (Unit {0}) PieceError
compared_of b x d = cond (agrees b x d) (Ok tt) (Err piece.Differs)

abbrev pub is_replayed : Result (Unit {0}) PieceError → Bool
is_replayed (Ok u) = true
is_replayed (Err e) = false

-- ""bad" and its index from 0", ""differs" and its index"
abbrev pub stop_of : Result (Unit {0}) PieceError → ℕ → Option Stop
stop_of (Ok u) i = None
stop_of (Err piece.Bad) i = Some (stop.Bad i)
stop_of (Err piece.Differs) i = Some (stop.Differs i)
