-- The data of a plain file as it is written: "split only where the linear address crosses a multiple of 65,536" (02, L11). Assumes nothing.
use Rattle.std.specs.Prelude.{ℕ, ◌+◌, cond, List, [], ◌∷◌, ◌++◌, length, take, drop}
use Rattle.laws.specs.Stores.{Store}
use Rattle.ihex_file.specs.File.{records_of}
-- where a record is cut
pub use Rattle.ihex_data.specs.Cuts.{room_of, crosses}

-- bytes at a linear address
abbrev pub piece : ℕ → List ℕ → Store
piece a d = record { address = a; bytes = d }

-- a record of at most 32 bytes crosses at most one multiple
unfoldable pub split_of : Store → List Store
split_of s =
    cond (crosses s.address (length s.bytes))
    (piece s.address (take (room_of s.address) s.bytes) ∷ piece (s.address + room_of s.address) (drop (room_of s.address) s.bytes) ∷ [])
    (s ∷ [])

-- each record, in order
unfoldable pub split_all : List Store → List Store
split_all [] = []
split_all (s ∷ ss) = split_of s ++ split_all ss

-- the pieces of a plain file
unfoldable pub pieces_of : List ℕ → List Store
pieces_of s = split_all (records_of s)
