-- Pieces of data, each what one data record holds. Assumes nothing.
use Prim.Native.Nat.{◌+◌, ◌/◌, ◌%◌, ◌≤◌, ◌<◌}
use mathlib.Core.List.{List, [], ◌∷◌}
use lib.ListN.{length}
use Rattle.laws.specs.Stores.{Store}
use Rattle.ihex_record.specs.Write.{Bytes}

-- what one data record holds
pub record Piece (s : Store) : Type 0 where
  pub some : 1 ≤ length s.bytes
  pub few : length s.bytes ≤ 32
  pub inside : s.address % 65536 + length s.bytes ≤ 65536
  pub wide : s.address / 65536 < 65536
  pub bytes : Bytes s.bytes

pub data Pieces : List Store → Type 0 where
  no_piece : Pieces []
  next_piece : {s : Store} {ss : List Store} → Piece s → Pieces ss → Pieces (s ∷ ss)
