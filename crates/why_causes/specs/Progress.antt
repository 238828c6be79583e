-- How a transfer stands beside a block: what the checks from 12 on ask of it (02, L6). Assumes nothing.
use Rattle.std.specs.Prelude.{ℕ, ◌+◌, Bool, true, false, ◌&&◌, not, cond, leb}
use Rattle.transfer.specs.Transfer.{same_head}
use Rattle.transfer.specs.declared.Head.{Head}
use Rattle.transfer.specs.declared.State.{State}
use Rattle.transfer.specs.declared.State.TheVariants.{Idle, Running, Done}

-- "the raised count (..; from 0 where the maps are cleared)"; of a transfer that is done row 12 decides, and nothing is raised
unfoldable pub raised_of : State → Head → ℕ
raised_of Idle g = 1
raised_of (Running r) g = cond (same_head r.head g) (r.count + 1) 1
raised_of (Done h) g = 1

-- "transfer Done"
abbrev pub is_done : State → Bool
is_done Idle = false
is_done (Running r) = false
is_done (Done g) = true

-- "Running, same family and total, number marked", and the same kind (02, L8)
abbrev pub is_again : State → Head → Bool → Bool
is_again Idle g marked = false
is_again (Running r) g marked = same_head r.head g && marked
is_again (Done h) g marked = false

-- a running transfer of another head, which an accepted block discards
abbrev pub runs_other : State → Head → Bool
runs_other Idle g = false
runs_other (Running r) g = not (same_head r.head g)
runs_other (Done h) g = false

-- by the number of its answer: 14 to 17 are the answers that accept a block
abbrev pub discarded_by : ℕ → State → Head → Bool
discarded_by n t g = leb 14 n && runs_other t g
