-- A fault that is told is there, and every condition before it holds. Proved in proofs/Faults.antt. Assumes nothing.
use Rattle.std.specs.Prelude.{ℕ, ◌%◌, ◌<◌, ◌≤◌, ◌≡◌, ◌≢◌, true, false, List, length, Ok, Err}
use Rattle.laws.specs.Sets.{any}
use Rattle.partitions.specs.Settings.{good_settings}
use Rattle.partitions.specs.declared.Settings.{Settings}
use Rattle.uf2_checks.specs.declared.Lengths.{Lengths}
use Rattle.arrival.specs.Arrive.{World, unchanged, receive_of}
use Rattle.demand.specs.Demand.{answer_number}
use Rattle.file_check.specs.Check.{Checked}
use Rattle.file_check.specs.declared.FileFault.TheVariants.{BadBuffers, BadSettings, Ragged, Empty, Refused, OtherFamily, OtherTotal, OtherKind, SameNumber, Overlap, Missing, Guarded}
use Rattle.file_check.specs.Check.{piece_at, pieces_in, field_in, kind_alone, total_in, family_in, kind_in, same_number, overlaps, fault_at, is_missing, is_guarding, right_maps, check_of}
use Rattle.file_check.specs.Valid.{Start}

-- lengths and settings are right, and the file is whole pieces, at least one
pub record Opens (s : Settings) (n : Lengths) (a b c : ℕ) (f : List ℕ) : Type 0 where
  pub lengths : right_maps n a b c ≡ true
  pub good : good_settings s n.flash ≡ true
  pub whole : length f % 512 ≡ 0
  pub some : length f ≢ 0

-- piece i is there, and nothing is wrong with those before it
pub record First (s : Settings) (n : Lengths) (f : List ℕ) (i : ℕ) : Type 0 where
  pub here : i < pieces_in f
  pub before : (j : ℕ) → j < i → fault_at s n f j ≡ Ok tt

-- an Idle board takes it
abbrev pub Taken : Settings → Lengths → List ℕ → ℕ → Type 0
Taken s n f i = (w : World) → Start n w → 12 ≤ answer_number s w (piece_at f i)

-- and it is of the first piece's family, total and kind
pub record Fits (n : Lengths) (f : List ℕ) (i : ℕ) : Type 0 where
  pub family : field_in f i 28 ≡ family_in f
  pub total : field_in f i 24 ≡ total_in f
  pub kind : kind_alone n (piece_at f i) ≡ kind_in n f

-- nothing is wrong with any piece
abbrev pub Fine : Settings → Lengths → List ℕ → Type 0
Fine s n f = (j : ℕ) → j < pieces_in f → fault_at s n f j ≡ Ok tt

-- what each answer says
abbrev pub Told : Settings → Lengths → ℕ → ℕ → ℕ → List ℕ → Checked → Type 0
Told s n a b c f (Err BadBuffers) = right_maps n a b c ≡ false
Told s n a b c f (Err BadSettings) = (right_maps n a b c ≡ true) × (good_settings s n.flash ≡ false)
Told s n a b c f (Err Ragged) = (right_maps n a b c ≡ true) × (good_settings s n.flash ≡ true) × (length f % 512 ≢ 0)
Told s n a b c f (Err Empty) = (right_maps n a b c ≡ true) × (good_settings s n.flash ≡ true) × (length f ≡ 0)
Told s n a b c f (Err (Refused i x)) = Opens s n a b c f × First s n f i × ((w : World) → Start n w → receive_of s w (piece_at f i) ≡ unchanged w x)
Told s n a b c f (Err (OtherFamily i)) = Opens s n a b c f × First s n f i × Taken s n f i × (field_in f i 28 ≢ family_in f)
Told s n a b c f (Err (OtherTotal i)) =
    Opens s n a b c f × First s n f i × Taken s n f i × (field_in f i 28 ≡ family_in f) × (field_in f i 24 ≢ total_in f)
Told s n a b c f (Err (OtherKind i)) =
    Opens s n a b c f × First s n f i × Taken s n f i × (field_in f i 28 ≡ family_in f) × (field_in f i 24 ≡ total_in f) × (kind_alone n (piece_at f i) ≢ kind_in n f)
Told s n a b c f (Err (SameNumber i j)) =
    Opens s n a b c f × First s n f i × Taken s n f i × Fits n f i × (j < i) × (same_number f i j ≡ true) × (any j (same_number f i) ≡ false)
Told s n a b c f (Err (Overlap i j)) =
    Opens s n a b c f × First s n f i × Taken s n f i × Fits n f i × (any i (same_number f i) ≡ false) × (j < i) × (overlaps f i j ≡ true) × (any j (overlaps f i) ≡ false)
Told s n a b c f (Err (Missing k)) =
    Opens s n a b c f × Fine s n f × (pieces_in f < total_in f) × (k < total_in f) × (is_missing f k ≡ true) × (any k (is_missing f) ≡ false)
Told s n a b c f (Err (Guarded i)) =
    Opens s n a b c f × Fine s n f × (pieces_in f ≡ total_in f) × (i < pieces_in f) × (is_guarding s n f i ≡ true) × (any i (is_guarding s n f) ≡ false)
Told s n a b c f (Ok u) = Opens s n a b c f × Fine s n f × (pieces_in f ≡ total_in f) × (any (pieces_in f) (is_guarding s n f) ≡ false)

-- whatever is lent and whatever the file
unfoldable pub AnswersAreTrue : Type 0
AnswersAreTrue = (s : Settings) (n : Lengths) (a b c : ℕ) (f : List ℕ) → Told s n a b c f (check_of s n a b c f)
