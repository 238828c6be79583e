-- Calls of `uf2_take` and `uf2_look`, one after the other: the transfer travels between them as bytes. Proved in proofs/CallLists.antt. Assumes nothing.
use Rattle.std.specs.Prelude.{ℕ, ◌/◌, ◌%◌, ◌≤◌, ◌<◌, ◌≡◌, not, ◌&&◌, List, [], ◌∷◌, ◌++◌, map, eqb, length}
use Rattle.ihex_record.specs.Write.{Bytes}
use Rattle.laws.specs.Sets.{Set}
use Rattle.transfer.specs.Transfer.{kind_number, running}
use Rattle.transfer.specs.declared.Kind.{Kind}
use Rattle.transfer.specs.declared.State.TheVariants.{Idle, Done}
use Rattle.arrival.specs.Arrive.{Lent, World, buffer_of}
use Rattle.arrival.specs.Lists.{receive_all, answers_of, discards_of}
use Rattle.demand.specs.Demand.{File, ValidFile, Mixed, Sent, seen_of, how_many, is_whole, head_in, Counts, Contents, Ends, Plain, SameSet}
use Rattle.demand.specs.Regions.{Regions, Complete}
use Rattle.demand.specs.Stopped.{Stopped, ForeignToBoth, EndsAlike}
use Rattle.demand.specs.Cut.{Cut, Standing}
use Rattle.uf2_receiver.specs.Receiver.{world}
use Rattle.settings_layout.specs.Layout.{byte_at, settings_from, transfer_from, state_bytes}
use Rattle.uf2_batch.specs.Batch.{arrivals_of, results_of, stored_from}
use Rattle.call_bytes.specs.Calls.{ArrivalCall, BatchCall, look_bytes, take_bytes, take_batch}

-- ---- one call after the other

-- what the caller holds between two calls
pub record CallerState : Type 0 where
  pub transfer : List ℕ
  pub lent : Lent

-- the call for an arrival, with bytes of settings
abbrev pub call : List ℕ → CallerState → List ℕ → ArrivalCall
call s h a = take_bytes s h.transfer a h.lent

-- what a call leaves
abbrev pub left_by : ArrivalCall → CallerState
left_by r = record { transfer = r.transfer; lent = r.lent }

-- what a call for each arrival leaves, where each is handed what the last one left
unfoldable pub call_all : List ℕ → CallerState → List (List ℕ) → CallerState
call_all s h [] = h
call_all s h (a ∷ l) = call_all s (left_by (call s h a)) l

-- what each of them returns
unfoldable pub returns_of : List ℕ → CallerState → List (List ℕ) → List ℕ
returns_of s h [] = []
returns_of s h (a ∷ l) = (call s h a).result ∷ returns_of s (left_by (call s h a)) l

-- ---- they are the arrivals of one receiver

-- the transfer that the bytes are, and the buffers
abbrev pub world_of : CallerState → World
world_of h = world (transfer_from h.transfer) h.lent

-- every element of every arrival is a byte
abbrev pub AllBytes : List (List ℕ) → Type 0
AllBytes [] = Unit {0}
AllBytes (a ∷ l) = Bytes a × AllBytes l

-- whatever the settings, the transfer and the buffers, the calls leave what `receive_all` leaves, and return its answers
unfoldable pub CallsAreArrivals : Type 0
CallsAreArrivals =
    (s : List ℕ) (h : CallerState) (l : List (List ℕ)) → AllBytes l → let z = settings_from s in
    (world_of (call_all s h l) ≡ receive_all z (world_of h) l)
    × (returns_of s h l ≡ results_of (answers_of z (world_of h) l) (discards_of z (world_of h) l))

-- ---- so demand 3 holds of the calls

-- what holds of every start with an Idle transfer, every valid file and every list of its blocks mixed with arrivals answered 4 to 11
abbrev pub EveryCalls : (List ℕ → CallerState → File → List (List ℕ) → Type 0) → Type 0
EveryCalls P =
    (s : List ℕ) (h : CallerState) (F : File) → (world_of h).transfer ≡ Idle → ValidFile (settings_from s) (world_of h) F
    → (l : List (List ℕ)) → Sent (settings_from s) (world_of h) F l → AllBytes l → P s h F l

-- the end of the calls, with S the set of blocks seen and k what the caller then holds: 01's bullets of transfer and seen map, and the transfer's
-- bytes
pub record CallsCount (h : CallerState) (F : File) (S : Set) (k : CallerState) : Type 0 where
  pub counts : Counts (world_of h) F S (world_of k)
  -- "m = 0: transfer, flash and maps are as lent.", byte for byte
  pub untouched : how_many F S ≡ 0 → k ≡ h
  -- "m from 1 to n-1: Running (family, n, m). m = n, the set is whole: Done (family, n)."
  pub going : 1 ≤ how_many F S → how_many F S < F.total → k.transfer ≡ state_bytes (running (head_in F) (how_many F S))
  pub whole : how_many F S ≡ F.total → k.transfer ≡ state_bytes (Done (head_in F))
  -- "the whole file be one kind, which the transfer carries once it isn't Idle" (02, L8), as its last byte
  pub kind : 1 ≤ how_many F S → byte_at k.transfer 13 ≡ kind_number F.kind

-- with regions (02, L9) or without
unfoldable pub CallsCountStated : Type 0
CallsCountStated = EveryCalls (λ s h F l. CallsCount h F (seen_of F l) (call_all s h l))

-- without regions: "what was lent at the start and the set of file blocks seen decide flash, maps and transfer"
unfoldable pub CallsEnd : Type 0
CallsEnd =
    EveryCalls
    (λ s h F l. Plain (settings_from s) (world_of h) F → Ends (settings_from s) (world_of h) F (seen_of F l) (world_of (call_all s h l)))

-- with regions: "Demand 3 for such files speaks of flash at completion only" (02, L9)
unfoldable pub CallsRegions : Type 0
CallsRegions =
    EveryCalls
    (λ s h F l.
    Regions (settings_from s) (world_of h) F → Complete (settings_from s) (world_of h) F l
    → Contents (settings_from s) (world_of h) F (seen_of F l) (world_of (call_all s h l)))

-- ""Completed" comes exactly when an arrival makes the set whole, and no second time", by the result of the call for a after those for l
unfoldable pub CallsCompleted : Type 0
CallsCompleted =
    EveryCalls
    (λ s h F l.
    (a : List ℕ) → Sent (settings_from s) (world_of h) F (l ++ (a ∷ []))
    → eqb ((call s (call_all s h l) a).result % 128) 15 ≡ not (is_whole F (seen_of F l)) && is_whole F (seen_of F (l ++ (a ∷ []))))

-- "Two such lists with the same set, from the same start, end alike.", byte for byte
unfoldable pub CallsSameSet : Type 0
CallsSameSet =
    EveryCalls
    (λ s h F l.
    Plain (settings_from s) (world_of h) F → (m : List (List ℕ)) → Sent (settings_from s) (world_of h) F m → AllBytes m → SameSet F l m
    → call_all s h l ≡ call_all s h m)

-- "So do two such lists of the file played one after the other, whichever goes first."
unfoldable pub CallsEitherFirst : Type 0
CallsEitherFirst =
    EveryCalls
    (λ s h F l.
    Plain (settings_from s) (world_of h) F → (m : List (List ℕ)) → Sent (settings_from s) (world_of h) F m → AllBytes m
    → call_all s h (l ++ m) ≡ call_all s h (m ++ l))

-- ---- a stopped update, then a good one (02, L13): calls from a stopped start h, and from an Idle one k

-- they end alike, and the transfer byte for byte
pub record CallsAlike (s : List ℕ) (h k : CallerState) (F : File) (l : List (List ℕ)) : Type 0 where
  pub ends : EndsAlike (settings_from s) (world_of k) F l (world_of (call_all s h l)) (world_of (call_all s k l))
  pub transfer : (call_all s h l).transfer ≡ (call_all s k l).transfer

unfoldable pub CallsStopped : Type 0
CallsStopped =
    (s : List ℕ) (h k : CallerState) (F : File) → Stopped F (world_of h) (world_of k) → ValidFile (settings_from s) (world_of k) F
    → Plain (settings_from s) (world_of k) F → (l : List (List ℕ)) → Mixed F (ForeignToBoth (settings_from s) (world_of h) (world_of k) F) l
    → AllBytes l → 1 ≤ how_many F (seen_of F l) → CallsAlike s h k F l

-- ---- power lost, then the file again: calls from h, which power came back to, and from k, as it was before the file was first sent

-- the file whole: byte for byte as if power had never been lost
unfoldable pub CallsCut : Type 0
CallsCut =
    (s : List ℕ) (h k : CallerState) (F : File) → Cut (settings_from s) F (world_of h) (world_of k) → ValidFile (settings_from s) (world_of k) F
    → Plain (settings_from s) (world_of k) F → (l : List (List ℕ)) → Sent (settings_from s) (world_of k) F l → AllBytes l
    → how_many F (seen_of F l) ≡ F.total → call_all s h l ≡ call_all s k l

-- calls for blocks that stand already change no byte of flash or RAM
unfoldable pub CallsStanding : Type 0
CallsStanding =
    EveryCalls
    (λ s h F l.
    Plain (settings_from s) (world_of h) F → Standing (settings_from s) (world_of h) F (seen_of F l)
    → (u : Kind) → buffer_of u (world_of (call_all s h l)).held ≡ buffer_of u (world_of h).held)

-- ---- they are one call of `uf2_take_all`

-- what such a call leaves
abbrev pub left_by_batch : BatchCall → CallerState
left_by_batch o = record { transfer = o.transfer; lent = o.lent }

-- one call for arrivals a with room r for results is a call for each of the arrivals that it counts
pub record Same (s : List ℕ) (h : CallerState) (a r : List ℕ) (o : BatchCall) : Type 0 where
  pub left : left_by_batch o ≡ call_all s h (arrivals_of o.number a)
  pub results : o.results ≡ stored_from r 0 (returns_of s h (arrivals_of o.number a))
  pub all : length a / 512 ≤ length r → o.number ≡ length a / 512
  pub few : length r ≤ length a / 512 → o.number ≡ length r

-- byte for byte, in transfer, flash, RAM and both maps; it counts every arrival that has room for its result
unfoldable pub CallsAreOneCall : Type 0
CallsAreOneCall =
    (s : List ℕ) (h : CallerState) (a r : List ℕ) → Bytes a
    → Same s h a r (take_batch s h.transfer a r h.lent)

-- ---- looks (02, L7): "a look, which changes nothing and says what would happen"

-- what a call of `uf2_look` says of an arrival
abbrev pub look_at : List ℕ → CallerState → List ℕ → ℕ
look_at s h a = look_bytes s h.transfer a h.lent

-- "On the same inputs both give the old call's answer and "discarded""
unfoldable pub LookIsTake : Type 0
LookIsTake = (s : List ℕ) (h : CallerState) (a : List ℕ) → look_at s h a ≡ (call s h a).result

-- one of several calls
pub data Call : Type 0 where
  looks : List ℕ → Call
  takes : List ℕ → Call

-- what calls leave, one after the other; a look is lent nothing that it could write
unfoldable pub play_calls : List ℕ → CallerState → List Call → CallerState
play_calls s h [] = h
play_calls s h (looks a ∷ l) = play_calls s h l
play_calls s h (takes a ∷ l) = play_calls s (left_by (call s h a)) l

-- the arrivals that they take
unfoldable pub taken_by : List Call → List (List ℕ)
taken_by [] = []
taken_by (looks a ∷ l) = taken_by l
taken_by (takes a ∷ l) = a ∷ taken_by l

-- looks between takes change nothing: the takes alone leave the same
unfoldable pub LooksChangeNothing : Type 0
LooksChangeNothing = (s : List ℕ) (h : CallerState) (l : List Call) → play_calls s h l ≡ call_all s h (taken_by l)

-- what a look said after the calls of l is what the take then says, with more looks between the two
unfoldable pub LookThenTake : Type 0
LookThenTake =
    (s : List ℕ) (h : CallerState) (l : List Call) (a : List ℕ) (m : List (List ℕ))
    → (call s (play_calls s h (l ++ (looks a ∷ map looks m))) a).result ≡ look_at s (play_calls s h l) a
