-- A stopped update, then a good one (02, L13): the claim, over whole lists. Proved in proofs/Stopped.antt. Assumes nothing.
use Rattle.std.specs.Prelude.{ℕ, ◌≤◌, ◌<◌, ◌≡◌, ◌≢◌, Bool, true, false, List, length, get_or}
use Rattle.partitions.specs.declared.Settings.{Settings}
use Rattle.transfer.specs.Transfer.{good_state}
use Rattle.transfer.specs.declared.Kind.{Kind}
use Rattle.transfer.specs.declared.Run.{Run}
use Rattle.transfer.specs.declared.State.TheVariants.{Idle, Running}
use Rattle.arrival.specs.Arrive.{World, buffer_of, lengths_of}
use Rattle.arrival.specs.Lists.{receive_all}
use Rattle.demand.specs.Demand.{File, answer_number, is_data, ValidFile, Foreign, Mixed, seen_of, how_many, changed_by, head_in, Plain}

-- "any Running transfer that passes check 3, any map contents, any flash": v, with buffers of any content; and an Idle start w, with buffers of the
-- same lengths, whatever they hold
pub record Stopped (F : File) (v w : World) : Type 0 where
  pub run : Run
  pub running : v.transfer ≡ Running run
  pub sound : good_state v.transfer ≡ true
  -- "a valid file of another family, total or kind"
  pub differs : run.head ≢ head_in F
  -- "A file that differs in kind alone holds no comments"
  pub quiet : run.head.family ≡ F.family → run.head.total ≡ F.total → (k : ℕ) → k < F.total → is_data F k ≡ true
  pub idle : w.transfer ≡ Idle
  pub lengths : lengths_of v.held ≡ lengths_of w.held
  pub seen_length : length v.seen ≡ length w.seen
  pub sectors_length : length v.held.sectors ≡ length w.held.sectors

-- the other arrivals of the list: answered 4 to 11 at both starts, and at the Idle one foreign to the file
pub record ForeignToBoth (s : Settings) (v w : World) (F : File) (a : List ℕ) : Type 0 where
  pub foreign : Foreign s w F a
  pub least : 4 ≤ answer_number s v a
  pub most : answer_number s v a ≤ 11

-- "the sectors or ranges it touches, both maps and the transfer end as from Idle"
pub record EndsAlike (s : Settings) (w : World) (F : File) (l : List (List ℕ)) (x y : World) : Type 0 where
  pub transfer : x.transfer ≡ y.transfer
  pub seen : x.seen ≡ y.seen
  pub sectors : x.held.sectors ≡ y.held.sectors
  pub bytes : (u : Kind) (j : ℕ) → changed_by s w F (seen_of F l) u j ≡ true → get_or (buffer_of u x.held) j 0 ≡ get_or (buffer_of u y.held) j 0

-- "arrives whole, in any order and with repeats": here every list in which at least one of its blocks comes; "files with regions under L9 are left out."
unfoldable pub StoppedThenGood : Type 0
StoppedThenGood =
    (s : Settings) (v w : World) (F : File) → Stopped F v w → ValidFile s w F → Plain s w F
    → (l : List (List ℕ)) → Mixed F (ForeignToBoth s v w F) l → 1 ≤ how_many F (seen_of F l)
    → EndsAlike s w F l (receive_all s v l) (receive_all s w l)

-- the stopped board, its transfer made Idle
abbrev pub idled : World → World
idled v = record { transfer = Idle; seen = v.seen; held = v.held }

-- from there the list leads to the very same world
unfoldable pub StoppedIsIdle : Type 0
StoppedIsIdle =
    (s : Settings) (v : World) (F : File) → Stopped F v (idled v) → ValidFile s (idled v) F → Plain s (idled v) F
    → (l : List (List ℕ)) → Mixed F (ForeignToBoth s v (idled v) F) l → 1 ≤ how_many F (seen_of F l)
    → receive_all s v l ≡ receive_all s (idled v) l

-- and every other byte is as the stopped transfer left it
unfoldable pub StoppedOthersStay : Type 0
StoppedOthersStay =
    (s : Settings) (v : World) (F : File) → Stopped F v (idled v) → ValidFile s (idled v) F → Plain s (idled v) F
    → (l : List (List ℕ)) → Mixed F (ForeignToBoth s v (idled v) F) l → 1 ≤ how_many F (seen_of F l)
    → (u : Kind) (j : ℕ) → changed_by s (idled v) F (seen_of F l) u j ≡ false
    → get_or (buffer_of u (receive_all s v l).held) j 0 ≡ get_or (buffer_of u v.held) j 0
