-- What the call for one file from two answers and leaves. Assumes nothing.
use Rattle.std.specs.Prelude.{ℕ, List}
use Rattle.uhex_join.specs.Join.{JoinCall, join_of}
-- what is returned, of 64 bits
pub use Rattle.uhex_join.specs.Result.{board_code, joined_result}
unfoldable pub use Rattle.uhex_join.specs.Result.{refusal_result}

-- ---- a call

-- what is returned, and what the output holds
pub record JoinReturn : Type 0 where
  pub result : ℕ
  pub output : List ℕ

-- both as one value, which the contract names
abbrev pub join_return : ℕ → List ℕ → JoinReturn
join_return n l = record { result = n; output = l }

abbrev pub join_return_of : JoinCall → JoinReturn
join_return_of c = join_return (joined_result c.answer) c.room

-- of two files and an output
unfoldable pub join_bytes : List ℕ → List ℕ → List ℕ → JoinReturn
join_bytes a b out = join_return_of (join_of a b out)
