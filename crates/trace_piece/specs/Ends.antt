-- The end of a replay (02, L10): how many records stand before it. Assumes nothing.
use Rattle.std.specs.Prelude.{ℕ, Option, Some, None}
use Rattle.trace_piece.specs.declared.Stop.{Stop}
use Rattle.trace_piece.specs.declared.Stop.TheVariants.{Bad, Differs}

-- how many records stand before the stop, of a trace with n whole pieces
abbrev pub before_stop : ℕ → Option Stop → ℕ
before_stop n None = n
before_stop n (Some (Bad i)) = i
before_stop n (Some (Differs i)) = i
