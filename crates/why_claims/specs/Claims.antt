-- What is claimed of reasons (02, L6): "Show that the reason is the true one: every earlier check passes, this one doesn't, and the answer is the
-- receiver's." For every settings, transfer, buffers and arrival. proofs/ proves each claim, in lower case. Assumes nothing.
use Rattle.std.specs.Prelude.{ℕ, ◌+◌, ◌*◌, ◌<◌, ◌≤◌, get_or, ◌≡◌, ◌⊎◌, Bool, true, ◌&&◌, List, [], ◌∷◌, ltb, Option, Some, None, Ok, Result, Err}
use Rattle.uf2_block.specs.Block.{field_at}
use Rattle.partitions.specs.Settings.{entry_at}
use Rattle.partitions.specs.declared.Entry as settings
use Rattle.partitions.specs.declared.Link.TheVariants.{BOf}
use Rattle.placement.specs.Place.{bytes_of, place_from}
use Rattle.placement.specs.declared.Place.{Place}
use Rattle.why_settings.specs.Faults.{fault_number, faults_of}
use Rattle.why_settings.specs.declared.Fault.{Fault}
use Rattle.why_settings.specs.declared.Fault.TheVariants.{ArchOff, CountOver, NoSectors, PastFlash, Shares, LinksUp, LinksToB, ManyUsers, ReservedUser}
use Rattle.why_place.specs.declared.Rule.TheVariants.{Absolute, NoTable}
use Rattle.why_place.specs.declared.Denial.TheVariants.{NoEntry}
use Rattle.why_causes.specs.declared.Cause.TheVariants.{NoPlace}
use Rattle.placement.specs.Place.{ask_of, place_answer_number}
use Rattle.why_place.specs.declared.Origin.{Origin}
use Rattle.why_place.specs.declared.Origin.TheVariants.{Whole, Entry}
use Rattle.why.specs.Placed.{place_checks, holds_of, placed_number, why_place_of}
use Rattle.why.specs.Why.{place_row, checks_of, last_of, holds_in, why_of}
use Rattle.partitions.specs.declared.Settings.{Settings}
use Rattle.transfer.specs.Transfer.{number_of, count_of}
use Rattle.transfer.specs.declared.Kind.{Kind}
use Rattle.transfer.specs.declared.State.{State}
use Rattle.uf2_checks.specs.declared.Lengths.{Lengths}
use Rattle.arrival.specs.Arrive.{World, receive_of, look_of}
use Rattle.why_causes.specs.Causes.{answer_of, cause_number}
use Rattle.why_causes.specs.Checks.{Deciding, state_row, header_row}
use Rattle.why_causes.specs.Lengths.{lengths_row}
use Rattle.why_causes.specs.Numbers.{numbers_row, address_row, stray_row}
use Rattle.why_checks.specs.Block.{written_row}
use Rattle.why_causes.specs.declared.Reason.{Reason}
use Rattle.settings_claims.specs.Targeting.{row, IsA, Accepts, First}

-- "every earlier check passes, this one doesn't": in the one list of all checks, each of which tests the condition and the numbers that it names; or all
-- pass, and the block is kept
unfoldable pub ReasonIsTrue : Type 0
ReasonIsTrue = (s : Settings) (w : World) (a : List ℕ) → Deciding (holds_in s w a) (last_of w a) (checks_of s w a) (why_of s w a).reason

-- "and the answer is the receiver's": the look's, and so the take's (`Facts.antt` of arrival)
unfoldable pub AnswerIsTheReceivers : Type 0
AnswerIsTheReceivers = (s : Settings) (w : World) (a : List ℕ) → answer_of (why_of s w a).reason.cause ≡ (look_of s w a).answer

-- and so is its "discarded"
unfoldable pub DiscardIsTheReceivers : Type 0
DiscardIsTheReceivers = (s : Settings) (w : World) (a : List ℕ) → (why_of s w a).discarded ≡ (look_of s w a).discarded

-- "from 14 on, the raised count and the total": the count of the transfer that the take leaves, "the total, when Done", and the block's own "24 total"
unfoldable pub CountIsRaised : Type 0
CountIsRaised =
    (s : Settings) (w : World) (a : List ℕ) → 14 ≤ number_of (receive_of s w a).answer
    → ((why_of s w a).reason.got ≡ count_of (receive_of s w a).world.transfer) × ((why_of s w a).reason.against ≡ field_at a 24)

-- what a mark says of an entry and a family, by the entry's fields: 1 is "B of", 2 "doesn't accept"
pub data MarkTrue (e : settings.Entry) (f : ℕ) : ℕ → Type 0 where
  b_of : (j : ℕ) → e.link ≡ BOf j → MarkTrue e f 1
  does_not_accept : IsA e → (Accepts e f → ⊥) → MarkTrue e f 2

-- "for each used entry "B of" or else "doesn't accept""
unfoldable pub MarksAreTrue : Type 0
MarksAreTrue =
    (s : Settings) (w : World) (a : List ℕ) → (why_of s w a).reason.cause ≡ NoPlace NoEntry → (k : ℕ) → k < 16 → k < s.count
    → MarkTrue (row s k) (field_at a 28) (get_or (why_of s w a).entries k 0)

-- ---- a place asked for alone

-- "the answer is the receiver's": 1, 2 or 8, or 0 for a place that is found
unfoldable pub PlaceAnswerIsTheReceivers : Type 0
PlaceAnswerIsTheReceivers = (s : Settings) (len f : ℕ) → placed_number (why_place_of s len f).placed ≡ place_answer_number (ask_of s len f)

-- the reason of a refusal, or y where the place is found
abbrev pub refusal_or : Reason → Result Origin Reason → Reason
refusal_or y (Err x) = x
refusal_or y (Ok (Whole r)) = y
refusal_or y (Ok (Entry p k)) = y

-- "every earlier check passes, this one doesn't", or all pass and it is found
unfoldable pub PlaceReasonIsTrue : Type 0
PlaceReasonIsTrue =
    (s : Settings) (len f : ℕ) (y : Reason) → Deciding (holds_of s len f) y (place_checks s len f) (refusal_or y (why_place_of s len f).placed)

-- "For a place it names the pass and the entry, or the whole-flash rule.": absolute is the family and is allowed; there is no table and the family is one
-- that then gets the whole flash; or pass p, of 1 to 4, is the first that takes a used entry, and k is the first that it takes (`First` of targeting)
abbrev pub FoundTrue : Settings → ℕ → Result Origin Reason → Type 0
FoundTrue s f (Err x) = Unit {0}
FoundTrue s f (Ok (Whole Absolute)) = (f ≡ 0xe48bff57) × (s.absolute ≡ true)
FoundTrue s f (Ok (Whole NoTable)) =
    (s.count ≡ 0) × ((f ≡ 0xe48bff58) ⊎ (((f ≡ 0xe48bff59) × (s.arm ≡ true)) ⊎ ((f ≡ 0xe48bff5a) × (s.riscv ≡ true))))
FoundTrue s f (Ok (Entry p k)) = First s f p k

unfoldable pub FoundPlaceIsTrue : Type 0
FoundPlaceIsTrue = (s : Settings) (len f : ℕ) → FoundTrue s f (why_place_of s len f).placed

-- the place that is named so: the whole flash, or the bytes of the entry
abbrev pub place_named : Settings → ℕ → Result Origin Reason → Option Place
place_named s len (Err x) = None
place_named s len (Ok (Whole r)) = Some (place_from 0 len)
place_named s len (Ok (Entry p k)) = bytes_of (entry_at s.table k)

-- where the receiver finds a place, that one is named
unfoldable pub FoundPlaceIsTheReceivers : Type 0
FoundPlaceIsTheReceivers =
    (s : Settings) (len f a n : ℕ) → ask_of s len f ≡ Ok (place_from a n) → place_named s len (why_place_of s len f).placed ≡ Some (place_from a n)

-- "for each used entry "B of" or else "doesn't accept"", of a family that has no place asked for alone
unfoldable pub PlaceMarksAreTrue : Type 0
PlaceMarksAreTrue =
    (s : Settings) (len f : ℕ) (x : Reason) → (why_place_of s len f).placed ≡ Err x → x.cause ≡ NoPlace NoEntry → (k : ℕ)
    → k < 16 → k < s.count → MarkTrue (row s k) f (get_or (why_place_of s len f).entries k 0)

-- ---- the order: "first in its row as written"

-- the conditions' numbers rise along a row
abbrev pub rises_from : ℕ → List Reason → Bool
rises_from n [] = true
rises_from n (c ∷ l) = ltb n (cause_number c.cause) && rises_from (cause_number c.cause) l

-- where a fault of row 2 stands: by its condition, "then the first field, map or entry": by its entry, then by the other that it is held to
abbrev pub stands_with : Fault → ℕ → ℕ → ℕ
stands_with x k j = fault_number x * 256 + k * 16 + j + 1

abbrev pub rank_of : Fault → ℕ
rank_of ArchOff = stands_with ArchOff 0 0
rank_of CountOver = stands_with CountOver 0 0
rank_of (NoSectors k) = stands_with (NoSectors k) k 0
rank_of (PastFlash k) = stands_with (PastFlash k) k 0
rank_of (Shares k j) = stands_with (Shares k j) k j
rank_of (LinksUp k) = stands_with (LinksUp k) k 0
rank_of (LinksToB k) = stands_with (LinksToB k) k 0
rank_of (ManyUsers k) = stands_with (ManyUsers k) k 0
rank_of (ReservedUser k) = stands_with (ReservedUser k) k 0

abbrev pub ranks_from : ℕ → List Fault → Bool
ranks_from n [] = true
ranks_from n (x ∷ l) = ltb n (rank_of x) && ranks_from (rank_of x) l

-- of row 2, and of rows 1, 3, 4 with 5 and 7, 8, 10, 11 and, of 02 (L9), 14
pub record InOrder : Type 0 where
  pub faults : (s : Settings) → ranks_from 0 (faults_of s) ≡ true
  pub lengths : (a : ℕ) (n : Lengths) (m k : ℕ) → rises_from 100 (lengths_row a n m k) ≡ true
  pub state : (t : State) → rises_from 300 (state_row t) ≡ true
  pub header : (a : List ℕ) → rises_from 400 (header_row a) ≡ true
  pub place : (k : Kind) (f : ℕ) → rises_from 800 (place_row k f) ≡ true
  pub numbers : (total number size : ℕ) → rises_from 1000 (numbers_row total number size) ≡ true
  pub address : (x size : ℕ) → rises_from 1100 (address_row x size) ≡ true
  pub stray : (x : ℕ) → rises_from 1100 (stray_row x) ≡ true
  pub written : (raised total : ℕ) → rises_from 1400 (written_row raised total) ≡ true
