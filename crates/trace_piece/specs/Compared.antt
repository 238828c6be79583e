-- One piece of a trace (02, L10): what it comes to. Assumes nothing.
use Rattle.std.specs.Prelude.{ℕ, cond, List, Result, Ok, Err}
use Rattle.partitions.specs.declared.Settings.{Settings}
use Rattle.arrival.specs.Arrive.{World, receive_of}
use Rattle.trace_piece.specs.declared.PieceError.{PieceError}
use Rattle.trace_piece.specs.declared.PieceError.TheVariants.{Bad, Differs}
use Rattle.trace_piece.specs.Piece.{recorded, arrival_in, is_bad, agrees}

-- what came of a piece, with the transfer and the buffers that it leaves
pub record PieceOutcome : Type 0 where
  pub answer : Result (Unit {0}) PieceError
  pub world : World

-- both as one value, which the contract names
abbrev pub piece_outcome : Result (Unit {0}) PieceError → World → PieceOutcome
piece_outcome x w = record { answer = x; world = w }

-- a piece that is bad, and "else" one that differs, leaves all as it was; any other is received
unfoldable pub piece_of : Settings → World → List ℕ → PieceOutcome
piece_of s w p =
    let ours = receive_of s w (arrival_in p) in
    cond (is_bad p) (piece_outcome (Err Bad) w)
    (cond (agrees (recorded p) ours.answer ours.discarded) (piece_outcome (Ok tt) ours.world)
    (piece_outcome (Err Differs) w))
