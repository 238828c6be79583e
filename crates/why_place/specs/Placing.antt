-- Row 8 by its rules: what shuts a family out of the flash or of RAM, what turns each entry down, and which pass and entry, or which rule for the whole
-- flash, a place comes from (01, "Settings and the place of a family"; 02, L6, L8). Assumes nothing.
use Rattle.std.specs.Prelude.{ℕ, suc, ◌<◌, ◌≡◌, ◌↔◌, ◌≢◌, ◌⊎◌, Bool, true, false, cond, not, ◌&&◌, ◌||◌, List, [], ◌∷◌, ltb, eqb, Option, Some, None, Result, Ok, Err}
use Rattle.laws.specs.Sets.{any, least}
use Rattle.laws.specs.Tab.{tab}
use Rattle.partitions.specs.declared.Entry.{Entry}
use Rattle.partitions.specs.declared.Settings.{Settings}
use Rattle.partitions.specs.Settings.{family_rp2040, family_absolute, family_data, family_arm_s, family_risc_v, entry_at, is_a, accepts}
use Rattle.placement.specs.declared.Place.{Place}
use Rattle.placement.specs.Place.{pass_query_of, pass_takes, used_count, gets_whole, bytes_of, place_of, ram_family, place_from}
use Rattle.why_place.specs.declared.Denial.{Denial}
use Rattle.why_place.specs.declared.Denial.TheVariants.{AbsoluteOff, Rp2040, ArmOff, RiscvOff, NotWithoutTable, NoEntry, NotForRam}
use Rattle.why_place.specs.declared.Rule.TheVariants.{Absolute, NoTable}
use Rattle.why_place.specs.declared.Origin.{Origin}
use Rattle.why_place.specs.declared.Origin.TheVariants as origin

-- ---- what shuts a family out

-- row 8's rules have the numbers 801 to 807, in 01's order, then 02's (L8)
abbrev pub denial_number : Denial → ℕ
denial_number AbsoluteOff = 801
denial_number Rp2040 = 802
denial_number ArmOff = 803
denial_number RiscvOff = 804
denial_number NotWithoutTable = 805
denial_number NoEntry = 806
denial_number NotForRam = 807

-- "Count 0, which is no table"
abbrev pub no_table : Settings → Bool
no_table s = eqb s.count 0

-- "data, arm-s .. and riscv ..", and absolute, which has a rule of its own
abbrev pub without_table : ℕ → Bool
without_table f = eqb f family_absolute || eqb f family_data || eqb f family_arm_s || eqb f family_risc_v

-- entry k is an A entry and accepts the family
unfoldable pub takes_at : List Entry → ℕ → ℕ → Bool
takes_at table f k = is_a (entry_at table k) && accepts (entry_at table k) f

-- the rule shuts the family out
abbrev pub denies : Settings → ℕ → Denial → Bool
-- "absolute: the whole flash if allowed, else no place."
denies s f AbsoluteOff = eqb f family_absolute && not s.absolute
-- "rp2040: no place."
denies s f Rp2040 = eqb f family_rp2040
-- no table: "arm-s (Arm enabled)"
denies s f ArmOff = no_table s && eqb f family_arm_s && not s.arm
-- no table: "riscv (RISC-V enabled)"
denies s f RiscvOff = no_table s && eqb f family_risc_v && not s.riscv
-- no table: "Others no place."
denies s f NotWithoutTable = no_table s && not (without_table f)
-- a table: "there is no place exactly if no A entry accepts it"; absolute is not asked of the table
denies s f NoEntry = not (no_table s) && not (eqb f family_absolute) && not (any (used_count s.count) (takes_at s.table f))
-- "In RAM only families ..58 to ..5b or a user family of a used entry; others 8." (02, L8)
denies s f NotForRam = not (ram_family s f)

-- the first rule of a list that shuts the family out
unfoldable pub first_denial : Settings → ℕ → List Denial → Result (Unit {0}) Denial
first_denial s f [] = Ok tt
first_denial s f (x ∷ l) = cond (denies s f x) (Err x) (first_denial s f l)

-- the rules for the flash, in 01's order
abbrev pub flash_denials : List Denial
flash_denials = AbsoluteOff ∷ Rp2040 ∷ ArmOff ∷ RiscvOff ∷ NotWithoutTable ∷ NoEntry ∷ []

-- the rule for RAM
abbrev pub ram_denials : List Denial
ram_denials = NotForRam ∷ []

unfoldable pub flash_access : Settings → ℕ → Result (Unit {0}) Denial
flash_access s f = first_denial s f flash_denials

unfoldable pub ram_access : Settings → ℕ → Result (Unit {0}) Denial
ram_access s f = first_denial s f ram_denials

-- the number of the rule, and 0 where none shuts the family out
abbrev pub access_number : Result (Unit {0}) Denial → ℕ
access_number (Ok u) = 0
access_number (Err x) = denial_number x

-- ---- what turns an entry down

-- "for each used entry "B of" or else "doesn't accept"" (02, L6): 1 and 2; 0 for an entry that is not used, and for one that would take the family
abbrev pub mark_for : Entry → ℕ → ℕ
mark_for e f = cond (is_a e) (cond (accepts e f) 0 2) 1

unfoldable pub mark_of : Settings → ℕ → ℕ → ℕ
mark_of s f k = cond (ltb k (used_count s.count)) (mark_for (entry_at s.table k) f) 0

-- the marks of all 16 entries
unfoldable pub marks_of : Settings → ℕ → List ℕ
marks_of s f = tab 16 (mark_of s f)

-- ---- where a place comes from

-- pass p + 1 takes entry k
unfoldable pub taken_in : Settings → ℕ → ℕ → ℕ → Bool
taken_in s f p k = pass_takes (pass_query_of s f) p (entry_at s.table k)

-- pass p + 1 takes a used entry
unfoldable pub pass_has : Settings → ℕ → ℕ → Bool
pass_has s f p = any (used_count s.count) (taken_in s f p)

-- the first pass that takes an entry, counted from 0
unfoldable pub pass_of : Settings → ℕ → ℕ
pass_of s f = least 4 (pass_has s f)

-- the first entry that a pass takes
unfoldable pub entry_in : Settings → ℕ → ℕ → ℕ
entry_in s f p = least (used_count s.count) (taken_in s f p)

-- the entry that the passes choose: 01's passes are 1 to 4
unfoldable pub table_spot : Settings → ℕ → Result Origin Denial
table_spot s f = Ok (origin.Entry (suc (pass_of s f)) (entry_in s f (pass_of s f)))

-- the rule or the pass that gives a place, for a family that is not shut out
unfoldable pub granted_spot : Settings → ℕ → Result Origin Denial
granted_spot s f =
    cond (eqb f family_absolute) (Ok (origin.Whole Absolute))
    (cond (no_table s) (Ok (origin.Whole NoTable))
    (table_spot s f))

abbrev pub spot_by : Result (Unit {0}) Denial → Result Origin Denial → Result Origin Denial
spot_by (Err x) y = Err x
spot_by (Ok u) y = y

unfoldable pub spot_of : Settings → ℕ → Result Origin Denial
spot_of s f = spot_by (flash_access s f) (granted_spot s f)

-- the rule's number where the family is shut out; else 1 for absolute, 2 for no table, 3 for an entry
abbrev pub spot_number : Result Origin Denial → ℕ
spot_number (Err x) = denial_number x
spot_number (Ok (origin.Whole Absolute)) = 1
spot_number (Ok (origin.Whole NoTable)) = 2
spot_number (Ok (origin.Entry p k)) = 3

-- ---- the claims, proved in proofs/Theorems.antt

-- the place that a spot stands for, in a flash of len bytes
abbrev pub spot_place : Settings → ℕ → Result Origin Denial → Option Place
spot_place s len (Err x) = None
spot_place s len (Ok (origin.Whole r)) = Some (place_from 0 len)
spot_place s len (Ok (origin.Entry p k)) = bytes_of (entry_at s.table k)

-- a family is shut out of the flash exactly where it has no place, for all settings
abbrev pub GrantedIsPlaced : Type 0
GrantedIsPlaced = (s : Settings) (len f : ℕ) → (flash_access s f ≡ Ok tt) ↔ (place_of s len f ≢ None)

abbrev pub GrantedIsForRam : Type 0
GrantedIsForRam = (s : Settings) (f : ℕ) → (ram_access s f ≡ Ok tt) ↔ (ram_family s f ≡ true)

-- the place is that of the spot
abbrev pub SpotIsPlaced : Type 0
SpotIsPlaced = (s : Settings) (len f : ℕ) → spot_place s len (spot_of s f) ≡ place_of s len f

-- what a mark says of an entry and a family
abbrev pub Marked : Entry → ℕ → ℕ → Type 0
Marked e f m = ((m ≡ 1) × (is_a e ≡ false)) ⊎ ((m ≡ 2) × (is_a e ≡ true) × (accepts e f ≡ false))

-- where no entry accepts the family, each used entry has a mark, and it is true
abbrev pub MarksAreTrue : Type 0
MarksAreTrue =
    (s : Settings) (f : ℕ) → flash_access s f ≡ Err NoEntry → (k : ℕ) → k < used_count s.count
    → Marked (entry_at s.table k) f (mark_of s f k)

-- "ending at the first match": no earlier pass takes an entry, this pass takes none before entry k, and it takes entry k, which is used
pub record FirstMatch (s : Settings) (f p k : ℕ) : Type 0 where
  pub pass : p < 4
  pub used : k < used_count s.count
  pub earlier : (q : ℕ) → q < p → (j : ℕ) → j < used_count s.count → taken_in s f q j ≡ false
  pub before : (j : ℕ) → j < k → taken_in s f p j ≡ false
  pub taken : taken_in s f p k ≡ true

-- what a place that is found tells: absolute is the family and is allowed; there is no table and the family is one of 01's three; or the first match
abbrev pub SpotTrue : Settings → ℕ → Result Origin Denial → Type 0
SpotTrue s f (Err x) = flash_access s f ≡ Err x
SpotTrue s f (Ok (origin.Whole Absolute)) = (f ≡ family_absolute) × (s.absolute ≡ true)
SpotTrue s f (Ok (origin.Whole NoTable)) = (s.count ≡ 0) × (f ≢ family_absolute) × (gets_whole s.arm s.riscv f ≡ true)
SpotTrue s f (Ok (origin.Entry p k)) = (q : ℕ) × (p ≡ suc q) × FirstMatch s f q k

abbrev pub PlaceIsTrue : Type 0
PlaceIsTrue = (s : Settings) (f : ℕ) → SpotTrue s f (spot_of s f)
