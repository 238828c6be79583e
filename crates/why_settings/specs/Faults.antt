-- Row 2 by its conditions: what each says of settings, which of them is the first, and the numbers that it compares. Numbers are natural, so
-- nothing wraps. Assumes nothing.
use Rattle.std.specs.Prelude.{ℕ, zero, suc, ◌+◌, ◌*◌, ◌<◌, ◌≡◌, Bool, true, cond, not, ◌&&◌, ◌↔◌, List, [], ◌∷◌, ◌++◌, ltb, leb, eqb, get_or, Option, None, Some}
use Rattle.laws.specs.Sets.{one, any, least}
use Rattle.partitions.specs.declared.Entry.{Entry}
use Rattle.partitions.specs.declared.Settings.{Settings}
use Rattle.partitions.specs.Settings.{family_rp2040, family_arm_ns, is_unowned, link_target, entry_at, enabled, count_over, no_sectors, runs_past, shares_with, links_up, links_to_b, many_users, reserved_at, reserved_user, good_settings, blank_entry}
use Rattle.why_settings.specs.declared.Fault.{Fault}
use Rattle.why_settings.specs.declared.Fault.TheVariants.{ArchOff, CountOver, NoSectors, PastFlash, Shares, LinksUp, LinksToB, ManyUsers, ReservedUser}
use Rattle.why_settings.specs.declared.Comparison.{Comparison}

-- ---- what each fault says

-- row 2's conditions have the numbers 201 to 209, in 01's order
abbrev pub fault_number : Fault → ℕ
fault_number ArchOff = 201
fault_number CountOver = 202
fault_number (NoSectors k) = 203
fault_number (PastFlash k) = 204
fault_number (Shares k j) = 205
fault_number (LinksUp k) = 206
fault_number (LinksToB k) = 207
fault_number (ManyUsers k) = 208
fault_number (ReservedUser k) = 209

-- the fault is in the settings, for a flash of len bytes
abbrev pub fault_in : Settings → ℕ → Fault → Bool
-- "the current architecture isn't enabled"
fault_in s len ArchOff = not (enabled s s.current)
-- "the count is over 16"
fault_in s len CountOver = count_over s
-- entry k "has no sectors"
fault_in s len (NoSectors k) = no_sectors (entry_at s.table k)
-- entry k "runs past the flash"
fault_in s len (PastFlash k) = runs_past len (entry_at s.table k)
-- entry k "shares a sector with another", j
fault_in s len (Shares k j) = shares_with s.table k j
-- entry k "links to an index not below its own"
fault_in s len (LinksUp k) = links_up s.table k
-- entry k links "to an entry that is "B of""
fault_in s len (LinksToB k) = links_to_b s.table k
-- entry k "has more than 4 user families"
fault_in s len (ManyUsers k) = many_users (entry_at s.table k)
-- entry k "has a user family from 0xe48bff56 to 0xe48bff5b"
fault_in s len (ReservedUser k) = reserved_user (entry_at s.table k)

-- ---- their order: the condition before the entry

-- f 0, then f 1, .., then f (n - 1)
unfoldable pub each : (ℕ → List Fault) → ℕ → List Fault
each f zero = []
each f (suc n) = each f n ++ f n

-- entry k beside each of the n used ones; itself is no other (sharesWith)
unfoldable pub sharing : ℕ → ℕ → List Fault
sharing n k = each (λ j. Shares k j ∷ []) n

-- 01's conditions for entry k, of n used ones, counted from 0
unfoldable pub condition_at : ℕ → ℕ → ℕ → List Fault
condition_at n rule k =
    cond (eqb rule 0) (NoSectors k ∷ [])
    (cond (eqb rule 1) (PastFlash k ∷ [])
    (cond (eqb rule 2) (sharing n k)
    (cond (eqb rule 3) (LinksUp k ∷ [])
    (cond (eqb rule 4) (LinksToB k ∷ [])
    (cond (eqb rule 5) (ManyUsers k ∷ [])
    (ReservedUser k ∷ []))))))

-- one condition for the n used entries, first to last
unfoldable pub condition_for : ℕ → ℕ → List Fault
condition_for n rule = each (condition_at n rule) n

-- the used entries, of the 16 that there are; where the count is over 16 that is a fault before any of an entry
abbrev pub used_of : Settings → ℕ
used_of s = cond (count_over s) 16 s.count

-- every fault that settings can have, in 01's order: each of the seven conditions for all used entries before the next condition for any
unfoldable pub faults_of : Settings → List Fault
faults_of s = ArchOff ∷ CountOver ∷ each (condition_for (used_of s)) 7

-- ---- the first fault

abbrev pub bad_if : Bool → Fault → Option Fault
bad_if b x = cond b (Some x) None

-- the first of a list that is in the settings
unfoldable pub first_in : Settings → ℕ → List Fault → Option Fault
first_in s len [] = None
first_in s len (x ∷ l) = cond (fault_in s len x) (Some x) (first_in s len l)

-- the first other of n entries that entry k shares a sector with
unfoldable pub first_shared : List Entry → ℕ → ℕ → Option Fault
first_shared table n k = bad_if (any n (shares_with table k)) (Shares k (least n (shares_with table k)))

unfoldable pub first_fault : Settings → ℕ → Option Fault
first_fault s len = first_in s len (faults_of s)

-- the number of a finding, and 0 where there is no fault
abbrev pub finding_number : Option Fault → ℕ
finding_number None = 0
finding_number (Some x) = fault_number x

-- ---- the numbers compared

-- entry k; past the table, where no fault points, a blank one
abbrev pub slot_at : List Entry → ℕ → Entry
slot_at table k = cond (ltb k 16) (entry_at table k) blank_entry

-- the first user family that is reserved, and 0, which is none, where there is none
unfoldable pub first_reserved : Entry → ℕ
first_reserved e =
    cond (reserved_at e 0) (get_or e.users 0 0)
    (cond (reserved_at e 1) (get_or e.users 1 0)
    (cond (reserved_at e 2) (get_or e.users 2 0)
    (cond (reserved_at e 3) (get_or e.users 3 0) 0)))

-- where an entry ends, in bytes
abbrev pub end_of : Entry → ℕ
end_of e = (e.first + e.sectors) * 4096

abbrev pub told : ℕ → ℕ → Comparison
told g a = record { got = g; against = a }

-- the number tested, and what it is tested against
abbrev pub tested_of : Settings → ℕ → Fault → Comparison
-- whether it is enabled, 1 or 0
tested_of s len ArchOff = told (one (enabled s s.current)) 0
tested_of s len CountOver = told s.count 16
tested_of s len (NoSectors k) = told (slot_at s.table k).sectors 0
tested_of s len (PastFlash k) = told (end_of (slot_at s.table k)) len
-- the other entry, and this one
tested_of s len (Shares k j) = told j k
-- the index that its link names, and its own
tested_of s len (LinksUp k) = told (link_target (slot_at s.table k).link) k
tested_of s len (LinksToB k) = told (link_target (slot_at s.table k).link) k
tested_of s len (ManyUsers k) = told (slot_at s.table k).user_count 4
tested_of s len (ReservedUser k) = told (first_reserved (slot_at s.table k)) family_rp2040

-- the test of two numbers, got g and against a, that a fault is; where two numbers do not tell it (whether a link is there, two runs of sectors, an
-- entry that is "B of") it looks at the settings besides
abbrev pub fault_test : Settings → Fault → ℕ → ℕ → Bool
fault_test s ArchOff g a = eqb g a
fault_test s CountOver g a = ltb a g
fault_test s (NoSectors k) g a = eqb g a
fault_test s (PastFlash k) g a = ltb a g
fault_test s (Shares k j) g a = shares_with s.table a g
fault_test s (LinksUp k) g a = not (is_unowned (entry_at s.table k)) && leb a g
fault_test s (LinksToB k) g a = links_to_b s.table a
fault_test s (ManyUsers k) g a = ltb a g
fault_test s (ReservedUser k) g a = leb a g && leb g family_arm_ns

-- the entry that a fault is of lies in the table
abbrev pub InTable : Fault → Type 0
InTable ArchOff = Unit
InTable CountOver = Unit
InTable (NoSectors k) = k < 16
InTable (PastFlash k) = k < 16
InTable (Shares k j) = k < 16
InTable (LinksUp k) = k < 16
InTable (LinksToB k) = k < 16
InTable (ManyUsers k) = k < 16
InTable (ReservedUser k) = k < 16

-- ---- the claims, proved in proofs/Theorems.antt

-- no fault is found exactly in good settings
abbrev pub SoundIsGood : Type 0
SoundIsGood = (s : Settings) (len : ℕ) → (first_fault s len ≡ None) ↔ (good_settings s len ≡ true)

-- each fault is a test of the numbers that it names
abbrev pub FaultIsTested : Type 0
FaultIsTested =
    (s : Settings) (len : ℕ) (x : Fault) → InTable x
    → fault_in s len x ≡ fault_test s x (tested_of s len x).got (tested_of s len x).against
