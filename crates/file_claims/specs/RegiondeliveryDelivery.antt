-- A file that is made with a region for each sector, delivered (02, L1 and L9): it is one of which demand 3 for files with regions speaks, and over
-- a flash that holds its pages every block of it stands. Proved in proofs/. Assumes nothing.
use Rattle.std.specs.Prelude.{ℕ, ◌*◌, ◌/◌, ◌<◌, ◌≤◌, ◌≡◌, true, List, [], ◌∷◌, map, ◌⊎◌, length, take, drop, Ok}
use Rattle.partitions.specs.declared.Settings.{Settings}
use Rattle.transfer.specs.Transfer.{number_of}
use Rattle.transfer.specs.declared.Answer.{Answer}
use Rattle.transfer.specs.declared.Kind.{Kind}
use Rattle.transfer.specs.declared.Kind.TheVariants.{Flash}
use Rattle.arrival.specs.Arrive.{World, buffer_of, lengths_of, receive_of}
use Rattle.arrival.specs.Lists.{receive_all, answers_of}
use Rattle.arrival.specs.Standing.{Standing}
use Rattle.arrival_claims.specs.Comments.{Unstored}
use Rattle.demand.specs.Demand.{File, ValidFile, is_guarded, seen_of, Contents}
use Rattle.demand.specs.Regions.{Regions, Complete, Final, region_in}
use Rattle.file_claims.specs.Delivery.{Deliverable}
use Rattle.uf2_make_regions.specs.File.{make_of}

-- the file that a call of the maker wrote: block k is the bytes from 512 x k on of the output as it is left
abbrev pub made_file : List ℕ → ℕ → ℕ → List ℕ → File
made_file image family start out =
    record {
      total = length image / 256;
      family = family;
      kind = Flash;
      block = λ k. take 512 (drop (512 * k) (make_of image family start out).output);
    }

abbrev pub IsMade : List ℕ → ℕ → ℕ → List ℕ → Type 0
IsMade image family start out = (make_of image family start out).answer ≡ Ok (length image / 256)

-- what holds of every file that is made and can be delivered
abbrev pub EveryMade : (Settings → World → File → Type 0) → Type 0
EveryMade P =
    (s : Settings) (w : World) (image out : List ℕ) (family start at size : ℕ) → IsMade image family start out
    → Deliverable s w image family start at size → P s w (made_file image family start out)

-- it is a file of which demand 3 speaks
unfoldable pub MadeFileIsValid : Type 0
MadeFileIsValid = EveryMade (λ s w F. ValidFile s w F)

-- every block's region counts: "whole sectors, not empty, within the place and around the block"
unfoldable pub EveryRegionCounts : Type 0
EveryRegionCounts = EveryMade (λ s w F. (k : ℕ) → k < F.total → is_guarded s w F k ≡ true)

-- "every data block in a region carry that same region, .. every sector of it have one, .. the digest be of the final bytes"
unfoldable pub MadeRegions : Type 0
MadeRegions = EveryMade (λ s w F. Regions s w F)

-- so at completion the flash is as without regions, where no other content of a region's digest is met
unfoldable pub Delivered : Type 0
Delivered = EveryMade (λ s w F. (l : List (List ℕ)) → Complete s w F l → Contents s w F (seen_of F l) (receive_all s w l))

-- over a flash that has a sector's final bytes, a block of that sector stands: it is answered 17, or 15 if last, wherever it is accepted
-- (`StandingKept` of crate arrivals)
unfoldable pub FinishedSectorStands : Type 0
FinishedSectorStands =
    EveryMade
    (λ s w F.
    (v : World) → lengths_of v.held ≡ lengths_of w.held
    → (k : ℕ) → k < F.total → Final s w F k (region_in s w F k v.held.flash) → Standing s v (F.block k))

-- ---- the file sent again over a flash that holds it

-- v has the buffers' lengths, and every region of the file has its final bytes
pub record Finished (s : Settings) (w : World) (F : File) (v : World) : Type 0 where
  pub lengths : lengths_of v.held ≡ lengths_of w.held
  pub final : (k : ℕ) → k < F.total → Final s w F k (region_in s w F k v.held.flash)

-- one block: nothing is stored, and the answer is 17, or 15 if last, wherever it is accepted. The transfer may be any.
unfoldable pub AgainKept : Type 0
AgainKept =
    EveryMade
    (λ s w F.
    (v : World) → Finished s w F v → (k : ℕ) → k < F.total → 14 ≤ number_of (receive_of s v (F.block k)).answer
    → Unstored 17 v (F.block k) (receive_of s v (F.block k)))

-- each answer of the list refuses, or is 15 or 17
unfoldable pub NoneWritten : List Answer → Type 0
NoneWritten [] = Unit {0}
NoneWritten (x ∷ l) = ((number_of x ≤ 13) ⊎ ((number_of x ≡ 15) ⊎ (number_of x ≡ 17))) × NoneWritten l

-- each number is one of the file
unfoldable pub AllBelow : ℕ → List ℕ → Type 0
AllBelow n [] = Unit {0}
AllBelow n (k ∷ l) = (k < n) × AllBelow n l

-- any of its blocks, in any order and however often: no buffer changes, and no block is answered 14
unfoldable pub AgainChangesNothing : Type 0
AgainChangesNothing =
    EveryMade
    (λ s w F.
    (v : World) → Finished s w F v → (l : List ℕ) → AllBelow F.total l
    → ((u : Kind) → buffer_of u (receive_all s v (map F.block l)).held ≡ buffer_of u v.held) × NoneWritten (answers_of s v (map F.block l)))
