-- The transfer (01, "One arrival, checks in this order"): its answers' numbers, row 3, and rows 12 to 15 with 02's 16 and 17. Assumes nothing.
use Rattle.std.specs.Prelude.{ℕ, ◌+◌, Bool, true, false, ◌&&◌, cond, ltb, leb, eqb, Result, Ok, Err}
use Rattle.transfer.specs.declared.Kind.{Kind}
use Rattle.transfer.specs.declared.Kind.TheVariants.{Flash, MainRam, XipRam}
use Rattle.transfer.specs.declared.Head.{Head}
use Rattle.transfer.specs.declared.State.{State}
use Rattle.transfer.specs.declared.State.TheVariants.{Idle, Running, Done}
use Rattle.transfer.specs.declared.Transfer.{Transfer}
use Rattle.transfer.specs.declared.Unchanged.{Unchanged}
use Rattle.transfer.specs.declared.Accepted.{Accepted}
use Rattle.transfer.specs.declared.Deed.{Deed}
use Rattle.transfer.specs.declared.Deed.TheVariants.{Stores, Notes, Keeps}
use Rattle.transfer.specs.declared.Answer.{Answer}
use Rattle.transfer.specs.declared.Answer.TheVariants.{BadBuffers, BadSettings, BadState, NotBlock, Container, NoFamily, NoPlace, BadPayload, BadNumbers, BadAddress, Finished, Again, Written, Completed, Noted, Kept}

-- the numbers of the answers: 01's, without its 6 (02, L3: "Its answer 6 goes"), which no answer has again, and 02's 16 and 17
abbrev pub number_of : Answer → ℕ
number_of BadBuffers = 1
number_of BadSettings = 2
number_of BadState = 3
number_of NotBlock = 4
number_of Container = 5
number_of NoFamily = 7
number_of NoPlace = 8
number_of BadPayload = 9
number_of BadNumbers = 10
number_of BadAddress = 11
number_of Finished = 12
number_of Again = 13
number_of Written = 14
number_of Completed = 15
number_of Noted = 16
number_of Kept = 17

-- "A fresh transfer is Idle"
abbrev pub fresh : Transfer
fresh = record { state = Idle }

-- the kinds' numbers, by which they are compared and stored
abbrev pub kind_number : Kind → ℕ
kind_number Flash = 0
kind_number MainRam = 1
kind_number XipRam = 2

-- the kinds are one
abbrev pub same_kind : Kind → Kind → Bool
same_kind k u = eqb (kind_number k) (kind_number u)

-- "(family, total)", and "The transfer carries its kind" (02, L8): what makes two blocks one transfer
abbrev pub head_with : Kind → ℕ → ℕ → Head
head_with k f n = record { family = f; total = n; kind = k }

-- "Running (family, total, count)"
abbrev pub running : Head → ℕ → State
running g c = Running (record { head = g; count = c })

-- "count (the total, when Done)"
abbrev pub count_of : State → ℕ
count_of Idle = 0
count_of (Running r) = r.count
count_of (Done g) = g.total

-- row 3 is passed: "Running without 1 <= count < total <= 131,072; Done without 1 <= total <= 131,072" is bad. Nothing is asked of the kind.
unfoldable pub good_state : State → Bool
good_state Idle = true
good_state (Running r) = leb 1 r.count && ltb r.count r.head.total && leb r.head.total 131072
good_state (Done g) = leb 1 g.total && leb g.total 131072

-- "same family and total", and "a change of kind discards like a change of family" (02, L8)
unfoldable pub same_head : Head → Head → Bool
same_head g h = eqb g.family h.family && eqb g.total h.total && same_kind g.kind h.kind

-- "at the total the transfer is Done"
unfoldable pub counted : Head → ℕ → State
counted g c = cond (ltb c g.total) (running g c) (Done g)

-- the answer of a block that does not complete: row 14, or for a comment "new answer 16 Noted" (02, L3), or "store nothing: answer 17 Kept" (02, L9)
abbrev pub deed_answer : Deed → Answer
deed_answer Stores = Written
deed_answer Notes = Noted
deed_answer Keeps = Kept

-- rows 14 and 15 (and 16, 17): that answer where "the raised count is under the block's total", Completed otherwise
unfoldable pub raised : Deed → Head → ℕ → Answer
raised d g c = cond (ltb c g.total) (deed_answer d) Completed

-- the transfer as it was, with an answer
abbrev pub kept_state : State → Answer → Unchanged
kept_state t x = record { transfer = record { state = t }; answer = x }

-- a block of head g is accepted, and c is the raised count
unfoldable pub accepted : Deed → Bool → Bool → Head → ℕ → Accepted
accepted d clears discards g c =
    record {
      transfer = record { state = counted g c };
      answer = raised d g c;
      discarded = discards;
      clears = clears;
    }

-- the answer to a block that does d, where x is that to one that stores, and the transfer goes on to a state
abbrev pub told_answer : Deed → State → Answer → Answer
told_answer d Idle x = x
told_answer d (Running r) x = deed_answer d
told_answer d (Done g) x = x

-- a block that was accepted as one that stores does d instead
abbrev pub with_deed : Deed → Accepted → Accepted
with_deed d y =
    record {
      transfer = y.transfer;
      answer = told_answer d y.transfer.state y.answer;
      discarded = y.discarded;
      clears = y.clears;
    }

-- what a block does to a transfer: it is accepted, or it changes nothing
abbrev pub Step : Type 0
Step = Result Accepted Unchanged

-- rows 12 to 15 (and 16, 17), of a block of head g whose number is marked or not, and which does d once it is accepted
unfoldable pub step_of : State → Head → Bool → Deed → Step
step_of Idle g marked d = Ok (accepted d true false g 1)
step_of (Running r) g marked d =
    cond (same_head r.head g)
    (cond marked (Err (kept_state (Running r) Again)) (Ok (accepted d false false g (r.count + 1))))
    (Ok (accepted d true true g 1))
step_of (Done h) g marked d = Err (kept_state (Done h) Finished)

-- the number of a step's answer
abbrev pub step_number : Step → ℕ
step_number (Err x) = number_of x.answer
step_number (Ok k) = number_of k.answer
