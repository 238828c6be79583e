-- The two boards that a file must serve (002, "Block Type"). Assumes nothing.
use Rattle.std.specs.Prelude.{ℕ, Bool, false, ◌&&◌, ◌||◌, eqb}
use Rattle.uhex_grammar.specs.declared.Boards.{Boards}

-- "V1 0x9900 or V2 0x9903"
abbrev pub is_v1 : ℕ → Bool
is_v1 b = eqb b 0x9900

-- "V2 0x9903"
abbrev pub is_v2 : ℕ → Bool
is_v2 b = eqb b 0x9903

-- neither, as a fresh reader has it
abbrev pub no_boards : Boards
no_boards = record { v1 = false; v2 = false }

-- the board is V1 or V2, and is there; of any other board nothing is kept
abbrev pub has_board : Boards → ℕ → Bool
has_board s b = is_v1 b && s.v1 || is_v2 b && s.v2

-- a board that is neither V1 nor V2 adds nothing
unfoldable pub with_board : Boards → ℕ → Boards
with_board s b = record { v1 = s.v1 || is_v1 b; v2 = s.v2 || is_v2 b }

-- "V1 and V2 each"
abbrev pub both_boards : Boards → Bool
both_boards s = s.v1 && s.v2
