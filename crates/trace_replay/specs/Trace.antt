-- One piece of a trace (02, L10): what it comes to, passed on. Assumes nothing.
use Rattle.std.specs.Prelude.{Result, Ok, Err}
use Rattle.transfer.specs.declared.Transfer.{Transfer}
use Rattle.arrival.specs.Arrive.{Lent}
use Rattle.uf2_receiver.specs.Receiver.{world}
use Rattle.trace_piece.specs.declared.PieceError.{PieceError}
pub use Rattle.trace_piece.specs.Compared.{PieceOutcome, piece_outcome}
unfoldable pub use Rattle.trace_piece.specs.Compared.{piece_of}

-- what is returned for a piece that is handed u, with the buffers as they are left: a piece that is not replayed leaves u
abbrev pub piece_return : Transfer → Result Transfer PieceError → Lent → PieceOutcome
piece_return u (Ok v) h = piece_outcome (Ok tt) (world v h)
piece_return u (Err e) h = piece_outcome (Err e) (world u h)
