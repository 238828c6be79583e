-- Demand 3 (01, "The list of demand 3"): what a valid file, a list of its blocks and the end of the list are, and the claim.
-- Proved in proofs/Demand.antt. Assumes nothing.
use Rattle.std.specs.Prelude.{ℕ, ◌+◌, ◌-◌, ◌/◌, ◌≤◌, ◌<◌, ◌≡◌, ◌≢◌, Bool, true, false, not, cond, ◌&&◌, ◌||◌, List, [], ◌∷◌, ◌++◌, map, eqb, ltb, leb, length, get_or, Option, Some, None}
use Rattle.laws.specs.Sets.{Set, none, add, size, any}
use Rattle.memory.specs.Bitmap.{map_of}
use Rattle.memory.specs.Flash.{payload_of, spans}
use Rattle.uf2_block.specs.Block.{field_at, has_flag, header_of}
use Rattle.uf2_block.specs.Region.{region_of}
use Rattle.uf2_block.specs.Regions.{good_region}
use Rattle.uf2_block.specs.declared.HeaderError.TheVariants as header
use Rattle.partitions.specs.declared.Settings.{Settings}
use Rattle.placement.specs.Place.{place_of}
use Rattle.placement.specs.declared.Place.{Place}
use Rattle.transfer.specs.Transfer.{same_kind, head_with, number_of, running}
use Rattle.transfer.specs.declared.Kind.{Kind}
use Rattle.transfer.specs.declared.Kind.TheVariants.{Flash, MainRam, XipRam}
use Rattle.transfer.specs.declared.Head.{Head}
use Rattle.transfer.specs.declared.State.TheVariants.{Idle, Done}
use Rattle.transfer.specs.declared.Answer.{Answer}
use Rattle.transfer.specs.declared.Answer.TheVariants.{Finished, Again, Written, Completed, Noted}
use Rattle.arrival.specs.Arrive.{World, buffer_of, lengths_of, outcome_number, receive_of}
use Rattle.arrival.specs.Windows.{window_start, lies}
use Rattle.arrival.specs.Lists.{receive_all, answers_of}
use Rattle.arrival_claims.specs.Kept.{soft}
pub use Rattle.arrival.specs.File.{File, is_data, head_in, is_found, start_of, origin_of}

-- ---- a valid file

-- "Whether a block earns 1 to 11 is asked with the fixed settings and what is lent at the start."
abbrev pub answer_number : Settings → World → List ℕ → ℕ
answer_number s w a = outcome_number (receive_of s w a)

-- the address of block k
abbrev pub address_of : File → ℕ → ℕ
address_of F k = field_at (F.block k) 12

-- "numbers 0 to n-1 once each, n at least 1, one family, the total n in every block, .. no block earning answers 1 to 11"
pub record ValidFile (s : Settings) (w : World) (F : File) : Type 0 where
  pub some : 1 ≤ F.total
  pub numbers : (k : ℕ) → k < F.total → field_at (F.block k) 20 ≡ k
  pub families : (k : ℕ) → k < F.total → field_at (F.block k) 28 ≡ F.family
  pub totals : (k : ℕ) → k < F.total → field_at (F.block k) 24 ≡ F.total
  -- "demand 3 now asks that data ranges be disjoint" (02, L8): no byte address is of two
  pub disjoint : (i k j : ℕ) → i < F.total → k < F.total → is_data F i ≡ true → is_data F k ≡ true
      → spans (address_of F i) j ≡ true → spans (address_of F k) j ≡ true → i ≡ k
  -- "the whole file be one kind": its data lies in the window of that
  pub kinds : (k : ℕ) → k < F.total → is_data F k ≡ true → lies F.kind (address_of F k) ≡ true
  -- "A RAM file in demand 3 holds no comments"
  pub quiet : F.kind ≢ Flash → (k : ℕ) → k < F.total → is_data F k ≡ true
  pub passes : (k : ℕ) → k < F.total → 12 ≤ answer_number s w (F.block k)

-- ---- a list of its blocks

-- "a comment of its family and total"
abbrev pub is_comment_of : File → List ℕ → Bool
is_comment_of F a = is_found (header_of a) && has_flag a 0x1 && eqb F.family (field_at a 28) && eqb F.total (field_at a 24)

-- "Arrivals answered 4 to 11 are the foreign ones"; "answered 4, 5 or 7 to 11" (02, L3), since no answer has the number 6. (01's term: foreign)
-- Of a RAM file "no foreign arrival is a comment of its family and total" (02, L8).
pub record Foreign (s : Settings) (w : World) (F : File) (a : List ℕ) : Type 0 where
  pub least : 4 ≤ answer_number s w a
  pub most : answer_number s w a ≤ 11
  pub quiet : F.kind ≢ Flash → is_comment_of F a ≡ false

-- "every list of its blocks, in any order, any number of times or not at all, mixed with" arrivals of which P holds
pub data Mixed (F : File) (P : List ℕ → Type 0) : List (List ℕ) → Type 0 where
  nothing : Mixed F P []
  own : {l : List (List ℕ)} (k : ℕ) → k < F.total → Mixed F P l → Mixed F P (F.block k ∷ l)
  other : {l : List (List ℕ)} (a : List ℕ) → P a → Mixed F P l → Mixed F P (a ∷ l)

-- "mixed with arrivals answered 4 to 11"
abbrev pub Sent : Settings → World → File → List (List ℕ) → Type 0
Sent s w F l = Mixed F (Foreign s w F) l

-- ---- what is seen

-- two arrivals are the same, byte for byte
unfoldable pub same_bytes : List ℕ → List ℕ → Bool
same_bytes [] [] = true
same_bytes [] (y ∷ b) = false
same_bytes (x ∷ a) [] = false
same_bytes (x ∷ a) (y ∷ b) = eqb x y && same_bytes a b

-- the arrival is one of the list
unfoldable pub among : List ℕ → List (List ℕ) → Bool
among a [] = false
among a (b ∷ l) = same_bytes a b || among a l

-- "A file block is seen once it has been an arrival of the list; repeats add nothing." (01's term: seen)
abbrev pub seen_of : File → List (List ℕ) → Set
seen_of F l k = ltb k F.total && among (F.block k) l

-- m, the number of different blocks of S
abbrev pub how_many : File → Set → ℕ
how_many F S = size F.total S

-- "the set is whole" (01's term: whole)
abbrev pub is_whole : File → Set → Bool
is_whole F S = eqb (how_many F S) F.total

-- ---- where it goes

-- "Storage address = place start + block address - 0x10000000" (01's term: storage address); in RAM "counted from the window's start" (02, L8)
abbrev pub storage_of : Settings → World → File → ℕ → ℕ
storage_of s w F k = origin_of s w F.kind F.family + (address_of F k - window_start F.kind)

-- block k is data and holds byte j of its kind's buffer
abbrev pub holds : Settings → World → File → ℕ → ℕ → Bool
holds s w F k j = is_data F k && spans (storage_of s w F k) j

-- a seen block holds byte j of the buffer of kind u
abbrev pub held_by : Settings → World → File → Set → Kind → ℕ → Bool
held_by s w F S u j = same_kind u F.kind && any F.total (λ k. S k && holds s w F k j)

-- block k is data, and its storage address lies in sector q
abbrev pub lies_in : Settings → World → File → ℕ → ℕ → Bool
lies_in s w F k q = is_data F k && eqb q (storage_of s w F k / 4096)

-- "A sector is touched if the storage address of a seen block lies in it." (01's term: touched), of data only; "a RAM file touches no sector"
abbrev pub touched_by : Settings → World → File → Set → Set
touched_by s w F S q = same_kind Flash F.kind && any F.total (λ k. S k && lies_in s w F k q)

-- byte j of the buffer of kind u is one that the file changes: in flash of a touched sector, in RAM of a seen payload
abbrev pub changed_by : Settings → World → File → Set → Kind → ℕ → Bool
changed_by s w F S Flash j = touched_by s w F S (j / 4096)
changed_by s w F S MainRam j = held_by s w F S MainRam j
changed_by s w F S XipRam j = held_by s w F S XipRam j

-- ---- the answers, by the set alone

-- the answer to a new block that leaves the set short of whole: row 14, or of a comment 16 (02, L3)
abbrev pub unfinished : List ℕ → Answer
unfinished a = cond (has_flag a 0x1) Noted Written

-- the answer to the arrival a, once the blocks of S have come
unfoldable pub reply_to : Settings → World → File → Set → List ℕ → Answer
reply_to s w F S a =
    cond (leb (answer_number s w a) 11) (receive_of s w a).answer
    (cond (is_whole F S) Finished
    (cond (S (field_at a 20)) Again
    (cond (ltb (how_many F S + 1) F.total) (unfinished a) Completed)))

-- S, once the arrival a has come
unfoldable pub with_arrival : Settings → World → Set → List ℕ → Set
with_arrival s w S a = cond (leb (answer_number s w a) 11) S (add (field_at a 20) S)

-- the answer to each arrival of a list, S having come before it
unfoldable pub replies_to : Settings → World → File → Set → List (List ℕ) → List Answer
replies_to s w F S [] = []
replies_to s w F S (a ∷ l) = reply_to s w F S a ∷ replies_to s w F (with_arrival s w S a) l

-- ---- the end of the list

-- The four bullets of 01, with S the set of blocks seen and v the world after the list: of transfer and seen map, of the sector map, of the
-- buffers.

pub record Counts (w : World) (F : File) (S : Set) (v : World) : Type 0 where
  -- "m = 0: transfer, flash and maps are as lent."
  pub untouched : how_many F S ≡ 0 → v ≡ w
  -- "m from 1 to n-1: Running (family, n, m). m = n, the set is whole: Done (family, n)."
  pub going : 1 ≤ how_many F S → how_many F S < F.total → v.transfer ≡ running (head_in F) (how_many F S)
  pub whole : how_many F S ≡ F.total → v.transfer ≡ Done (head_in F)
  -- "the seen map marks exactly the numbers of the seen blocks, .. every other bit is 0."
  pub seen_map : 1 ≤ how_many F S → v.seen ≡ map_of 16384 S

pub record Contents (s : Settings) (w : World) (F : File) (S : Set) (v : World) : Type 0 where
  -- "each seen payload at its storage address,", "asked of data only" (02, L3)
  pub payloads : (k : ℕ) → k < F.total → S k ≡ true → is_data F k ≡ true → (i : ℕ) → i < 256
      → get_or (buffer_of F.kind v.held) (storage_of s w F k + i) 0 ≡ get_or (payload_of (F.block k)) i 0
  -- which lies in its kind's buffer
  pub inside : (k : ℕ) → k < F.total → is_data F k ≡ true → storage_of s w F k + 256 ≤ length (buffer_of F.kind w.held)
  -- "0xFF in the rest of each touched sector,", "erased bytes for flash only" (02, L8)
  pub erased : (j : ℕ) → j < length w.held.flash → touched_by s w F S (j / 4096) ≡ true → held_by s w F S Flash j ≡ false
      → get_or v.held.flash j 0 ≡ 255
  -- "every other byte as lent."; "For any file, every other byte of all three buffers stays."
  pub others : (u : Kind) (j : ℕ) → changed_by s w F S u j ≡ false → get_or (buffer_of u v.held) j 0 ≡ get_or (buffer_of u w.held) j 0
  pub lengths : lengths_of v.held ≡ lengths_of w.held

pub record Ends (s : Settings) (w : World) (F : File) (S : Set) (v : World) : Type 0 where
  pub counts : Counts w F S v
  -- ".. the sector map exactly the touched sectors; every other bit is 0."
  pub sector_map : 1 ≤ how_many F S → v.held.sectors ≡ map_of 1024 (touched_by s w F S)
  pub contents : Contents s w F S v

-- ---- regions (02, L9)

-- the bytes of a place
abbrev pub size_of : Option Place → ℕ
size_of None = 0
size_of (Some p) = p.len

-- block k names a region that counts: a flash data block with flag 0x4000, and "whole sectors, not empty, within the place and around the block"
abbrev pub is_guarded : Settings → World → File → ℕ → Bool
is_guarded s w F k =
    same_kind F.kind Flash
    && is_data F k
    && has_flag (F.block k) 0x4000
    && good_region (size_of (place_of s (length w.held.flash) F.family)) (address_of F k) (region_of (F.block k))

-- a file without regions: none of its blocks names one that counts
abbrev pub Plain : Settings → World → File → Type 0
Plain s w F = (k : ℕ) → k < F.total → is_guarded s w F k ≡ false

-- ---- the claims, of every valid file and every list, the empty one too, from an Idle transfer with buffers of any content

-- what holds of every such start, file and list
abbrev pub EveryList : (Settings → World → File → List (List ℕ) → Type 0) → Type 0
EveryList P =
    (s : Settings) (w : World) (F : File) → w.transfer ≡ Idle → ValidFile s w F
    → (l : List (List ℕ)) → Sent s w F l → P s w F l

-- with regions or without: the set of file blocks seen decides transfer and seen map
unfoldable pub ListCounts : Type 0
ListCounts = EveryList (λ s w F l. Counts w F (seen_of F l) (receive_all s w l))

-- "For any file, every other byte of all three buffers stays.", of the buffers of other kinds
unfoldable pub OtherKindsStay : Type 0
OtherKindsStay = EveryList (λ s w F l. (u : Kind) → u ≢ F.kind → buffer_of u (receive_all s w l).held ≡ buffer_of u w.held)

-- the answer to each arrival of the list, with 17 told as 14
unfoldable pub ListAnswers : Type 0
ListAnswers = EveryList (λ s w F l. map soft (answers_of s w l) ≡ replies_to s w F none l)

-- without regions: "what was lent at the start and the set of file blocks seen decide flash, maps and transfer, and nothing else does"
unfoldable pub ListEnds : Type 0
ListEnds = EveryList (λ s w F l. Plain s w F → Ends s w F (seen_of F l) (receive_all s w l))

-- and each answer is the one told
unfoldable pub PlainAnswers : Type 0
PlainAnswers = EveryList (λ s w F l. Plain s w F → answers_of s w l ≡ replies_to s w F none l)

-- "Completed" is answer 15
abbrev pub is_completed : Answer → Bool
is_completed x = eqb (number_of x) 15

-- ""Completed" comes exactly when an arrival makes the set whole, and no second time": a is the arrival after the list l
unfoldable pub CompletedExactly : Type 0
CompletedExactly =
    (s : Settings) (w : World) (F : File) → w.transfer ≡ Idle → ValidFile s w F
    → (l : List (List ℕ)) (a : List ℕ) → Sent s w F (l ++ (a ∷ []))
    → is_completed (receive_of s (receive_all s w l) a).answer ≡ not (is_whole F (seen_of F l)) && is_whole F (seen_of F (l ++ (a ∷ [])))

-- the same blocks are seen in two lists
abbrev pub SameSet : File → List (List ℕ) → List (List ℕ) → Type 0
SameSet F l m = (k : ℕ) → k < F.total → seen_of F l k ≡ seen_of F m k

-- "Two such lists with the same set, from the same start, end alike."
unfoldable pub SameSetSameEnd : Type 0
SameSetSameEnd =
    EveryList
    (λ s w F l. Plain s w F → (m : List (List ℕ)) → Sent s w F m → SameSet F l m → receive_all s w l ≡ receive_all s w m)

-- "So do two such lists of the file played one after the other, whichever goes first."
unfoldable pub EitherFirst : Type 0
EitherFirst =
    EveryList (λ s w F l. Plain s w F → (m : List (List ℕ)) → Sent s w F m → receive_all s w (l ++ m) ≡ receive_all s w (m ++ l))

-- the same transfer and seen map
pub record SameCount (v w : World) : Type 0 where
  pub transfer : v.transfer ≡ w.transfer
  pub seen : v.seen ≡ w.seen

-- with regions or without
unfoldable pub SameSetSameCount : Type 0
SameSetSameCount =
    EveryList (λ s w F l. (m : List (List ℕ)) → Sent s w F m → SameSet F l m → SameCount (receive_all s w l) (receive_all s w m))

unfoldable pub EitherFirstSameCount : Type 0
EitherFirstSameCount =
    EveryList (λ s w F l. (m : List (List ℕ)) → Sent s w F m → SameCount (receive_all s w (l ++ m)) (receive_all s w (m ++ l)))
