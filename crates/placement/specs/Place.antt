-- The place of a family (01, "Settings and the place of a family"). Numbers are natural, so nothing wraps. Assumes nothing.
use Rattle.std.specs.Prelude.{ℕ, zero, suc, ◌+◌, ◌*◌, ◌%◌, ◌<◌, ◌≤◌, ◌≡◌, ◌↔◌, ◌≢◌, Bool, true, ◌&&◌, ◌||◌, cond, not, List, leb, eqb, Option, Some, None, Result, Ok, Err}
use Rattle.laws.specs.Sets.{any}
use Rattle.partitions.specs.Settings.{family_rp2040, family_absolute, family_data, family_arm_s, family_risc_v, family_arm_ns, has_user, entry_at, is_a, accepts, good_settings}
use Rattle.partitions.specs.Alike.{Alike}
use Rattle.partitions.specs.declared.Settings.{Settings}
use Rattle.partitions.specs.declared.Entry.{Entry}
use Rattle.memory.specs.Flash.{flash_length}
use Rattle.placement.specs.declared.passes.PassQuery.{PassQuery}
pub use Rattle.placement.specs.Passes.{used_count}
unfoldable pub use Rattle.placement.specs.Passes.{pass_query_of, pass_allows, pass_takes}
use Rattle.placement.specs.declared.Place.{Place}
use Rattle.placement.specs.declared.PlaceError.{PlaceError}
use Rattle.placement.specs.declared.PlaceError.TheVariants.{BadBuffers, BadSettings, NoPlace}

-- the entry that the passes choose, by its index
abbrev pub Choice : Type 0
Choice = Option ℕ

-- the answer to a place asked for alone
abbrev pub PlaceAnswer : Type 0
PlaceAnswer = Result Place PlaceError

-- the place of n bytes from a on
abbrev pub place_from : ℕ → ℕ → Place
place_from a n = record { start = a; len = n }

-- ---- the first match

-- the first of two that is an entry
abbrev pub or_else : Choice → Choice → Choice
or_else None c = c
or_else (Some k) c = Some k

-- the first of g 0, g 1, .., g (n - 1) that is an entry
unfoldable pub first_of : (ℕ → Choice) → ℕ → Choice
first_of g zero = None
first_of g (suc n) = or_else (first_of g n) (g n)

-- entry k where the pass takes it
unfoldable pub entry_if : List Entry → PassQuery → ℕ → ℕ → Choice
entry_if table w pass k = cond (pass_takes w pass (entry_at table k)) (Some k) None

-- one pass over n entries, first to last, ending at the first match
unfoldable pub in_pass : List Entry → ℕ → PassQuery → ℕ → Choice
in_pass table n w pass = first_of (entry_if table w pass) n

-- "four passes over the table, first to last, ending at the first match"
unfoldable pub chosen : List Entry → ℕ → PassQuery → Choice
chosen table n w = first_of (in_pass table n w) 4

-- ---- the place

-- the entry that the passes choose
unfoldable pub chosen_entry : Settings → ℕ → Choice
chosen_entry s f = chosen s.table (used_count s.count) (pass_query_of s f)

-- "data, arm-s (Arm enabled) and riscv (RISC-V enabled) get the whole flash"
abbrev pub gets_whole : Bool → Bool → ℕ → Bool
gets_whole arm riscv f = eqb f family_data || eqb f family_arm_s && arm || eqb f family_risc_v && riscv

-- the whole of so many bytes, or no place
abbrev pub whole_if : Bool → ℕ → Option Place
whole_if b len = cond b (Some (place_from 0 len)) None

-- the bytes of an entry
abbrev pub bytes_of : Entry → Option Place
bytes_of e = Some (place_from (e.first * 4096) (e.sectors * 4096))

-- the place of the chosen entry, and no place where none is
abbrev pub place_of_choice : List Entry → Choice → Option Place
place_of_choice table None = None
place_of_choice table (Some k) = bytes_of (entry_at table k)

-- the place begins below 2 ^ 44, the 2 ^ 32 sectors that an entry can name; so it is for bad settings too
abbrev pub StartsLow : Option Place → Type 0
StartsLow None = Unit
StartsLow (Some p) = p.start < 0x100000000000

-- the place of a family, for settings that are good
unfoldable pub place_of : Settings → ℕ → ℕ → Option Place
place_of s len f =
    cond (eqb f family_absolute) (whole_if s.absolute len)
    (cond (eqb f family_rp2040) None
    (cond (eqb s.count 0) (whole_if (gets_whole s.arm s.riscv f) len)
    (place_of_choice s.table (chosen_entry s f))))

-- "8 NoPlace: the family has none"; a place is no refusal, and has 0
abbrev pub place_number : Option Place → ℕ
place_number None = 8
place_number (Some p) = 0

-- ---- families in RAM (02, L8)

-- f is a user family of entry k, whatever its link
abbrev pub user_of : List Entry → ℕ → ℕ → Bool
user_of table f k = has_user (entry_at table k) f

-- "In RAM only families ..58 to ..5b or a user family of a used entry"
unfoldable pub ram_family : Settings → ℕ → Bool
ram_family s f = leb family_data f && leb f family_arm_ns || any (used_count s.count) (user_of s.table f)

-- ---- a place asked for alone

-- "refused by .. 8" where there is no place
abbrev pub found_at : Option Place → PlaceAnswer
found_at None = Err NoPlace
found_at (Some p) = Ok p

-- "A place asked for alone, with settings and a flash length, is refused by 1, 2 or 8, in that order."
unfoldable pub ask_of : Settings → ℕ → ℕ → PlaceAnswer
ask_of s len f =
    cond (not (flash_length len)) (Err BadBuffers)
    (cond (not (good_settings s len)) (Err BadSettings)
    (found_at (place_of s len f)))

-- the refusals' numbers; a place that is found is no refusal, and has 0
abbrev pub place_answer_number : PlaceAnswer → ℕ
place_answer_number (Err BadBuffers) = 1
place_answer_number (Err BadSettings) = 2
place_answer_number (Err NoPlace) = 8
place_answer_number (Ok p) = 0

-- ---- what is claimed of places

-- entry k is used, is an A entry and accepts the family
abbrev pub Accepting : Settings → ℕ → ℕ → Type 0
Accepting s f k = (k < s.count) × (is_a (entry_at s.table k) ≡ true) × (accepts (entry_at s.table k) f ≡ true)

-- n bytes from a on lie in a flash of len bytes, and start and end at a sector
abbrev pub Inside : ℕ → ℕ → ℕ → Type 0
Inside len a n = (a % 4096 ≡ 0) × (n % 4096 ≡ 0) × (a + n ≤ len)

-- ---- the claims, proved in proofs/Theorems.antt

-- "With good settings and a partition table, a family other than absolute and rp2040 has no place exactly when no A partition accepts
-- it." (demand 2)
abbrev pub NoPlaceStated : Type 0
NoPlaceStated =
    (s : Settings) (len f : ℕ) → good_settings s len ≡ true → s.count ≢ 0 → f ≢ family_absolute → f ≢ family_rp2040
    → (place_of s len f ≡ None) ↔ ((k : ℕ) → Accepting s f k → ⊥)

-- with good settings and a right flash length a place lies in the flash, and starts and ends at a sector
abbrev pub PlaceInside : Type 0
PlaceInside =
    (s : Settings) (len f : ℕ) → flash_length len ≡ true → good_settings s len ≡ true → (a n : ℕ) → place_of s len f ≡ Some (place_from a n)
    → Inside len a n

-- settings that are alike but for "don't restart" and what is not used have the same places, the same families in RAM and the same answers (02, L5)
abbrev pub AlikePlaces : Type 0
AlikePlaces =
    (s t : Settings) (len f : ℕ) → Alike s t
    → (place_of s len f ≡ place_of t len f) × (ram_family s f ≡ ram_family t f) × (ask_of s len f ≡ ask_of t len f)
