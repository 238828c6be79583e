-- How long the texts of a reader's states are. Assumes nothing.
use Prim.Native.Nat.{◌≤◌}
use native.Mathlib.Omega.{arith}
use lib.ListN.{length}
use Rattle.uhex_grammar.specs.declared.ReaderState.{ReaderState}
use Rattle.uhex_grammar.specs.declared.ReaderState.TheVariants.{Between, Opened, Inside, Padded, Ended, Failed}
use Rattle.text.proofs.hex_answer.Laws.{failed_short}
use Rattle.text.specs.HexState.{reader_state_text}

pub state_short : (s : ReaderState) → length (reader_state_text s) ≤ 63
unfolding reader_state_text
state_short Between = omega arith
state_short Opened = omega arith
state_short (Inside b) = omega arith
state_short (Padded b) = omega arith
state_short Ended = omega arith
state_short (Failed f) = failed_short f.answer
