-- The count (01, "One arrival"): "over any sequence from Idle with everything handed back, once a block has been accepted, count (the total,
-- when Done) = marks set = different numbers accepted since the last clearing". Proved in proofs/Tally.antt. Assumes nothing.
use Rattle.std.specs.Prelude.{ℕ, ◌<◌, ◌≡◌, ◌↔◌, Bool, true, false, not, cond, ◌||◌, List, [], ◌∷◌, leb}
use Rattle.laws.specs.Sets.{Set, none, add, size}
use Rattle.memory.specs.Bitmap.{marks}
use Rattle.uf2_block.specs.Block.{field_at}
use Rattle.partitions.specs.declared.Settings.{Settings}
use Rattle.transfer.specs.Transfer.{number_of, same_head, count_of}
use Rattle.transfer.specs.declared.Head.{Head}
use Rattle.transfer.specs.declared.State.{State}
use Rattle.transfer.specs.declared.State.TheVariants.{Idle, Running, Done}
use Rattle.transfer.specs.declared.Answer.{Answer}
use Rattle.arrival.specs.Arrive.{World, receive_of}
use Rattle.arrival.specs.Windows.{head_of}
use Rattle.arrival.specs.Lists.{Delivery, play_all}

-- a block is accepted: answer 14 or more
abbrev pub is_accepted : Answer → Bool
is_accepted x = leb 14 (number_of x)

-- "if the transfer was Idle, or Running with another family or total, both maps are first set to zero"; "a change of kind discards like a
-- change of family" (02, L8)
abbrev pub clears : State → Head → Bool
clears Idle g = true
clears (Running r) g = not (same_head r.head g)
clears (Done h) g = false

-- A, the numbers accepted since the last clearing, once the arrival a has come
abbrev pub accepted_by : Settings → World → List ℕ → Set → Set
accepted_by s w a A =
    cond (is_accepted (receive_of s w a).answer) (add (field_at a 20) (cond (clears w.transfer (head_of w a)) none A)) A

-- "different numbers accepted since the last clearing", over deliveries, A being those before them
unfoldable pub accepted_of : World → List Delivery → Set → Set
accepted_of w [] A = A
accepted_of w (t ∷ l) A =
    accepted_of (receive_of t.settings w t.arrival).world l (accepted_by t.settings w t.arrival A)

-- some block was accepted
unfoldable pub any_accepted : World → List Delivery → Bool
any_accepted w [] = false
any_accepted w (t ∷ l) =
    is_accepted (receive_of t.settings w t.arrival).answer || any_accepted (receive_of t.settings w t.arrival).world l

-- "once a block has been accepted, count (the total, when Done) = marks set = different numbers accepted since the last clearing", of
-- which each is one that the map has room for; until then the transfer is Idle
pub record CountFacts (w : World) (l : List Delivery) : Type 0 where
  pub idle : ((play_all w l).transfer ≡ Idle) ↔ (any_accepted w l ≡ false)
  pub marked : any_accepted w l ≡ true → count_of (play_all w l).transfer ≡ marks (play_all w l).seen
  pub different : any_accepted w l ≡ true → count_of (play_all w l).transfer ≡ size 131072 (accepted_of w l none)
  pub room : any_accepted w l ≡ true → (k : ℕ) → accepted_of w l none k ≡ true → k < 131072

-- over any deliveries, from Idle
unfoldable pub CountIsMarks : Type 0
CountIsMarks = (w : World) → w.transfer ≡ Idle → (l : List Delivery) → CountFacts w l
