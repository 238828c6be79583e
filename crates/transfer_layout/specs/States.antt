-- What the numbers of a transfer's bytes say: its kind, and its state. Every number below is a byte, or a field of four. Assumes nothing.
use Rattle.std.specs.Prelude.{ℕ, cond, ltb, eqb}
use Rattle.transfer.specs.declared.Kind.{Kind}
use Rattle.transfer.specs.declared.Kind.TheVariants.{Flash, MainRam, XipRam}
use Rattle.transfer.specs.declared.Head.{Head}
use Rattle.transfer.specs.declared.State.{State}
use Rattle.transfer.specs.declared.State.TheVariants.{Idle, Done}
use Rattle.transfer.specs.Transfer.{head_with, running}

-- what it writes to: the kind of this number (`kind_number`), where there is one
unfoldable pub kind_from : ℕ → Kind
kind_from k = cond (eqb k 1) MainRam (cond (eqb k 2) XipRam Flash)

-- a running transfer that has counted none, which row 3 refuses (proofs/Refused.antt of transferbytes)
abbrev pub no_state : State
no_state = running (head_with Flash 0 0) 0

-- a tag (0 Idle, 1 Running, 2 Done), the kind's number, the head and the count; any other tag is no state, and so is a kind over 2 of
-- a transfer that is not Idle
unfoldable pub state_of : ℕ → ℕ → Head → ℕ → State
state_of tag kind g c =
    cond (eqb tag 0) Idle
    (cond (ltb 2 kind) no_state
    (cond (eqb tag 1) (running g c)
    (cond (eqb tag 2) (Done g) no_state)))
