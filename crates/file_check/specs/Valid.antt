-- What the answer to a file says: `Valid` exactly if its pieces are the blocks of a file of which demand 3 speaks, in which no region counts; `Guarded`
-- exactly if they are, and one does; and what then holds once they are delivered. Proved in proofs/. Assumes nothing.
use Rattle.std.specs.Prelude.{ℕ, ◌*◌, ◌<◌, ◌≡◌, true, List, eqb, ltb, length, Ok, Err}
use Rattle.laws.specs.Sets.{none, least}
use Rattle.partitions.specs.declared.Settings.{Settings}
use Rattle.transfer.specs.declared.State.TheVariants.{Idle, Done}
use Rattle.uf2_checks.specs.declared.Lengths.{Lengths}
use Rattle.arrival.specs.Arrive.{World, lengths_of}
use Rattle.arrival.specs.Lists.{receive_all, answers_of}
use Rattle.demand.specs.Demand.{File, ValidFile, Plain, Sent, among, head_in, Contents, replies_to}
use Rattle.file_check.specs.Check.{Checked}
use Rattle.file_check.specs.declared.FileFault.TheVariants.{Guarded}
use Rattle.file_check.specs.Check.{piece_at, pieces_in, field_in, total_in, family_in, kind_in, check_of, is_sound}

-- an Idle start with buffers of these lengths, whatever they hold
pub record Start (n : Lengths) (w : World) : Type 0 where
  pub idle : w.transfer ≡ Idle
  pub lengths : lengths_of w.held ≡ n
  pub seen : length w.seen ≡ 16384
  pub sectors : length w.held.sectors ≡ 1024

-- the file that the pieces are: block k is the first piece with the number k
abbrev pub file_of : Lengths → List ℕ → File
file_of n f =
    record {
      total = total_in f;
      family = family_in f;
      kind = kind_in n f;
      block = λ k. piece_at f (least (pieces_in f) (λ i. eqb (field_in f i 20) k));
    }

-- the pieces are the blocks of F, in some order: as many as it has, each the block of its number, and none twice
pub record Pieces (f : List ℕ) (F : File) : Type 0 where
  pub count : length f ≡ F.total * 512
  pub below : (i : ℕ) → i < F.total → field_in f i 20 < F.total
  pub each : (i : ℕ) → i < F.total → F.block (field_in f i 20) ≡ piece_at f i
  pub once : (i j : ℕ) → i < F.total → j < F.total → field_in f i 20 ≡ field_in f j 20 → i ≡ j

-- f is the blocks of a valid file
pub record Good (s : Settings) (n : Lengths) (f : List ℕ) (F : File) : Type 0 where
  pub pieces : Pieces f F
  pub valid : (w : World) → Start n w → ValidFile s w F

-- ---- the claims

-- what the check says where 16,384, 16,384 and 2,080 bytes of maps are lent
abbrev pub answer_to : Settings → Lengths → List ℕ → Checked
answer_to s n f = check_of s n 16384 16384 2080 f

-- no region counts in the file
abbrev pub PlainAt : Settings → Lengths → File → Type 0
PlainAt s n F = (w : World) → Start n w → Plain s w F

-- valid: the pieces are the blocks of a valid file without regions
unfoldable pub ValidIsValid : Type 0
ValidIsValid =
    (s : Settings) (n : Lengths) (f : List ℕ) → answer_to s n f ≡ Ok tt → Good s n f (file_of n f) × PlainAt s n (file_of n f)

-- a region named: they are those of a valid file, and piece i names a region that counts
unfoldable pub GuardedIsValid : Type 0
GuardedIsValid =
    (s : Settings) (n : Lengths) (f : List ℕ) (i : ℕ) → answer_to s n f ≡ Err (Guarded i) → Good s n f (file_of n f)

-- and no other file is: whichever File they are the blocks of, valid for one Idle start with buffers of these lengths
unfoldable pub NothingElseIsValid : Type 0
NothingElseIsValid =
    (s : Settings) (w : World) (f : List ℕ) (F : File) → w.transfer ≡ Idle → ValidFile s w F → Pieces f F
    → is_sound (answer_to s (lengths_of w.held) f) ≡ true

-- and `Valid` where no region counts in it
unfoldable pub PlainIsValid : Type 0
PlainIsValid =
    (s : Settings) (w : World) (f : List ℕ) (F : File) → w.transfer ≡ Idle → ValidFile s w F → Pieces f F → Plain s w F
    → answer_to s (lengths_of w.held) f ≡ Ok tt

-- what stands after every piece came to a board of any content: demand 3's end of a whole set, and its answer to each arrival
pub record Delivered (s : Settings) (w : World) (F : File) (l : List (List ℕ)) : Type 0 where
  pub done : (receive_all s w l).transfer ≡ Done (head_in F)
  pub contents : Contents s w F (λ k. ltb k F.total) (receive_all s w l)
  pub answers : answers_of s w l ≡ replies_to s w F none l

-- a file that the check finds valid, sent to an Idle board: its pieces in any order and any number of times, each at least once, mixed with arrivals
-- that are foreign to it
unfoldable pub ValidArrives : Type 0
ValidArrives =
    (s : Settings) (w : World) (f : List ℕ) (l : List (List ℕ)) → w.transfer ≡ Idle → length w.seen ≡ 16384 → length w.held.sectors ≡ 1024
    → answer_to s (lengths_of w.held) f ≡ Ok tt
    → Sent s w (file_of (lengths_of w.held) f) l → ((i : ℕ) → i < pieces_in f → among (piece_at f i) l ≡ true)
    → Delivered s w (file_of (lengths_of w.held) f) l
