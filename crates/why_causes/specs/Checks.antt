-- Checks in their order, and which of them decides (02, L6): "first in its row as written (then the first field, map or entry in 01)". A check is the
-- reason that it is where it decides, and a test of its condition and its numbers tells whether it does. Assumes nothing.
use Rattle.std.specs.Prelude.{ℕ, ◌≡◌, Bool, true, false, cond, List, [], ◌∷◌, ◌++◌, Result, Ok, Err}
use Rattle.uf2_block.specs.Block.{field_at}
use Rattle.transfer.specs.declared.Head.{Head}
use Rattle.transfer.specs.declared.Run.{Run}
use Rattle.transfer.specs.declared.State.{State}
use Rattle.transfer.specs.declared.State.TheVariants.{Idle, Running, Done}
use Rattle.why_causes.specs.declared.Bound.TheVariants.{CountUnder, CountOver, RunningOver, DoneUnder, DoneOver}
use Rattle.why_causes.specs.declared.Magic.TheVariants.{First, Second, Last}
use Rattle.why_causes.specs.declared.Cause.TheVariants.{BadState, NotBlock, Container, NoFamily}
use Rattle.why_causes.specs.declared.Reason.{Reason}
use Rattle.why_causes.specs.Causes.{reason_with, number_test}

-- ---- which check decides

-- the first check whose test holds
unfoldable pub row_of : (Reason → Bool) → List Reason → Result (Unit {0}) Reason
row_of test [] = Ok tt
row_of test (c ∷ l) = cond (test c) (Err c) (row_of test l)

-- the row before, or what comes next
abbrev pub or_next : Result (Unit {0}) Reason → Result (Unit {0}) Reason → Result (Unit {0}) Reason
or_next (Ok u) r = r
or_next (Err x) r = Err x

-- the reason of a row, and `last` where every check passes
abbrev pub or_last : Reason → Result (Unit {0}) Reason → Reason
or_last last (Ok u) = last
or_last last (Err x) = x

-- "every earlier check passes, this one doesn't"; or all pass, and the last reason stands
pub data Deciding (test : Reason → Bool) (last : Reason) : List Reason → Reason → Type 0 where
  none : Deciding test last [] last
  here : {c : Reason} {l : List Reason} → test c ≡ true → Deciding test last (c ∷ l) c
  later : {c r : Reason} {l : List Reason} → test c ≡ false → Deciding test last l r → Deciding test last (c ∷ l) r

-- the test of a condition that compares its two numbers
abbrev pub by_numbers : Reason → Bool
by_numbers r = number_test r.cause r.got r.against

-- ---- row 3: "Running without 1 <= count < total <= 131,072; Done without 1 <= total <= 131,072"

unfoldable pub running_row : Run → List Reason
running_row r =
    reason_with (BadState CountUnder) r.count 1
    ∷ reason_with (BadState CountOver) r.count r.head.total
    ∷ reason_with (BadState RunningOver) r.head.total 131072
    ∷ []

unfoldable pub done_row : Head → List Reason
done_row g = reason_with (BadState DoneUnder) g.total 1 ∷ reason_with (BadState DoneOver) g.total 131072 ∷ []

unfoldable pub state_row : State → List Reason
state_row Idle = []
state_row (Running r) = running_row r
state_row (Done g) = done_row g

-- ---- rows 4, 5 and 7: "a magic number differs", "flag 0x1000", "flag 0x2000 clear"

unfoldable pub magic_row : ℕ → ℕ → ℕ → List Reason
magic_row first second last =
    reason_with (NotBlock First) first 0x0A324655
    ∷ reason_with (NotBlock Second) second 0x9E5D5157
    ∷ reason_with (NotBlock Last) last 0x0AB16F30
    ∷ []

unfoldable pub flags_row : ℕ → List Reason
flags_row flags = reason_with Container flags 0x1000 ∷ reason_with NoFamily flags 0x2000 ∷ []

unfoldable pub header_row : List ℕ → List Reason
header_row a = magic_row (field_at a 0) (field_at a 4) (field_at a 508) ++ flags_row (field_at a 8)
