-- A transfer as bytes, 14 of them. Every number below is a byte, or a field of four (`field_at`). Assumes nothing.
use Rattle.std.specs.Prelude.{ℕ, cond, List, [], ◌∷◌, ◌++◌, eqb, length, get_or}
use Rattle.uf2_block.specs.Block.{field_at}
use Rattle.uf2_block.specs.Write.{le32}
use Rattle.transfer.specs.declared.Head.{Head}
use Rattle.transfer.specs.declared.State.{State}
use Rattle.transfer.specs.declared.State.TheVariants.{Idle, Running, Done}
use Rattle.transfer.specs.declared.Transfer.{Transfer}
use Rattle.transfer.specs.Transfer.{kind_number, head_with}
pub use Rattle.transfer_layout.specs.States.{no_state}
unfoldable pub use Rattle.transfer_layout.specs.States.{kind_from, state_of}

-- 1 family, 5 total, 13 kind
abbrev pub head_from : List ℕ → Head
head_from b = head_with (kind_from (get_or b 13 0)) (field_at b 1) (field_at b 5)

-- 0 tag, 9 count, and the head; bytes of any other length are no state
unfoldable pub state_from : List ℕ → State
state_from b =
    cond (eqb (length b) 14) (state_of (get_or b 0 0) (get_or b 13 0) (head_from b) (field_at b 9)) no_state

-- the transfer that bytes are
abbrev pub transfer_from : List ℕ → Transfer
transfer_from b = record { state = state_from b }

-- the bytes of a tag, a family, a total, a count and a kind's number
unfoldable pub transfer_bytes : ℕ → ℕ → ℕ → ℕ → ℕ → List ℕ
transfer_bytes tag f n c kind = tag ∷ (le32 f ++ (le32 n ++ (le32 c ++ (kind ∷ []))))

-- those of a tag, a head and a count
abbrev pub head_bytes : ℕ → Head → ℕ → List ℕ
head_bytes tag g c = transfer_bytes tag g.family g.total c (kind_number g.kind)

-- the bytes of a transfer; one that is done has counted its total
abbrev pub state_bytes : State → List ℕ
state_bytes Idle = transfer_bytes 0 0 0 0 0
state_bytes (Running r) = head_bytes 1 r.head r.count
state_bytes (Done g) = head_bytes 2 g g.total

-- a transfer written over bytes, where there are 14
unfoldable pub with_transfer : List ℕ → State → List ℕ
with_transfer b t = cond (eqb (length b) 14) (state_bytes t) b
