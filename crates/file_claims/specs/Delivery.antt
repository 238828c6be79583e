-- "Delivered in any order, .. the pages stand at their storage addresses and the transfer is Done" (02, L1). Proved in proofs/. Assumes nothing.
use Rattle.std.specs.Prelude.{ℕ, ◌+◌, ◌-◌, ◌*◌, ◌/◌, ◌<◌, ◌≤◌, ◌^◌, ◌≡◌, Bool, true, false, ◌||◌, List, [], ◌∷◌, map, eqb, length, take, drop, Some, Ok}
use Rattle.partitions.specs.Settings.{good_settings}
use Rattle.partitions.specs.declared.Settings.{Settings}
use Rattle.placement.specs.Place.{place_of, place_from}
use Rattle.transfer.specs.declared.Kind.TheVariants.{Flash}
use Rattle.transfer.specs.declared.State.TheVariants.{Idle, Done}
use Rattle.arrival.specs.Arrive.{World, right_lengths, lengths_of}
use Rattle.arrival.specs.Lists.{receive_all}
use Rattle.demand.specs.Demand.{File, ValidFile, Sent, seen_of, head_in}
use Rattle.uf2_make.specs.Uf2file.{make_of}

-- the file that a call of the maker wrote: as many blocks as there are pages, block k the bytes from 512 x k on of the output as it is left
abbrev pub made_file : List ℕ → ℕ → ℕ → List ℕ → File
made_file image family start out =
    record {
      total = length image / 256;
      family = family;
      kind = Flash;
      block = λ k. take 512 (drop (512 * k) (make_of image family start out).output);
    }

-- the maker's answer to a call
abbrev pub IsMade : List ℕ → ℕ → ℕ → List ℕ → Type 0
IsMade image family start out = (make_of image family start out).answer ≡ Ok (length image / 256)

-- "from Idle, with good settings and buffer lengths, where the range's end less 0x10000000 is within the length of the family's place", which is the
-- flash from `at` on, `size` bytes
pub record Deliverable (s : Settings) (w : World) (image : List ℕ) (family start at size : ℕ) : Type 0 where
  pub idle : w.transfer ≡ Idle
  pub lengths : right_lengths 512 (lengths_of w.held) (length w.seen) (length w.held.sectors) ≡ true
  pub good : good_settings s (length w.held.flash) ≡ true
  pub narrow : family < 2 ^ 32
  pub placed : place_of s (length w.held.flash) family ≡ Some (place_from at size)
  pub fits : start + length image - 0x10000000 ≤ size

-- what holds of every file that is made and can be delivered
abbrev pub EveryMade : (Settings → World → List ℕ → ℕ → ℕ → File → Type 0) → Type 0
EveryMade P =
    (s : Settings) (w : World) (image out : List ℕ) (family start at size : ℕ) → IsMade image family start out
    → Deliverable s w image family start at size → P s w image at start (made_file image family start out)

-- it is a file of which demand 3 speaks
unfoldable pub MadeFileIsValid : Type 0
MadeFileIsValid = EveryMade (λ s w image at start F. ValidFile s w F)

-- "the transfer is Done", and "the pages stand at their storage addresses": from that of the first page on, the flash is the image
pub record Arrived (w : World) (image : List ℕ) (at start : ℕ) (F : File) : Type 0 where
  pub complete : w.transfer ≡ Done (head_in F)
  pub stored : take (length image) (drop (at + (start - 0x10000000)) w.held.flash) ≡ image

-- "Delivered in any order": by every list of demand 3 in which each block came at least once
unfoldable pub Delivered : Type 0
Delivered =
    EveryMade
    (λ s w image at start F.
    (l : List (List ℕ)) → Sent s w F l → ((k : ℕ) → k < F.total → seen_of F l k ≡ true) → Arrived (receive_all s w l) image at start F)

-- k is one of the numbers
unfoldable pub has_number : ℕ → List ℕ → Bool
has_number k [] = false
has_number k (j ∷ js) = eqb k j || has_number k js

-- the same, of blocks sent by their numbers: every list of these in which each stands, in whatever order and however often
unfoldable pub InAnyOrder : Type 0
InAnyOrder =
    EveryMade
    (λ s w image at start F.
    (js : List ℕ) → ((k : ℕ) → has_number k js ≡ true → k < F.total) → ((k : ℕ) → k < F.total → has_number k js ≡ true)
    → Arrived (receive_all s w (map F.block js)) image at start F)
