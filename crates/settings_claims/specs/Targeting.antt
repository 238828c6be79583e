-- The place of a family by the fields of the settings and of the table's entries (01, "Settings and the place of a family"; demand 2): none of the
-- definitions that the code meets stands on the side of the words. Proved in proofs/Targeting.antt. Assumes nothing.
use Rattle.std.specs.Prelude.{ℕ, ◌*◌, ◌<◌, ◌≡◌, ◌↔◌, ◌≢◌, true, false, get_or, Some, None}
use Rattle.partitions.specs.declared.Settings.{Settings}
use Rattle.partitions.specs.declared.Entry.{Entry}
use Rattle.partitions.specs.declared.Arch.TheVariants.{Arm, RiscV}
use Rattle.partitions.specs.declared.Link.TheVariants.{Unlinked, BOf}
use Rattle.partitions.specs.Settings.{empty_entry, good_settings}
use Rattle.placement.specs.Place.{place_of, place_from}

-- ---- one entry

-- entry k, in table order
abbrev pub row : Settings → ℕ → Entry
row s k = get_or s.table k empty_entry

-- "An entry is an A partition unless it is "B of"."
abbrev pub IsA : Entry → Type 0
IsA e = (j : ℕ) → e.link ≢ BOf j

-- "accepts-flags for data, arm-s, riscv and arm-ns, 0 to 4 user families"
pub data Accepts (e : Entry) (f : ℕ) : Type 0 where
  data_flag : f ≡ 0xe48bff58 → e.«data» ≡ true → Accepts e f
  arm_s_flag : f ≡ 0xe48bff59 → e.arm_s ≡ true → Accepts e f
  riscv_flag : f ≡ 0xe48bff5a → e.riscv ≡ true → Accepts e f
  arm_ns_flag : f ≡ 0xe48bff5b → e.arm_ns ≡ true → Accepts e f
  user_slot : (i : ℕ) → i < 4 → i < e.user_count → get_or e.users i 0 ≡ f → Accepts e f

-- entry k is used, is an A partition and accepts the family
pub record Accepting (s : Settings) (f k : ℕ) : Type 0 where
  pub used : k < s.count
  pub a : IsA (row s k)
  pub accepts : Accepts (row s k) f

-- "With good settings and a partition table, a family other than absolute and rp2040 has no place exactly when no A partition accepts it." (demand 2)
unfoldable pub NoPlaceByFields : Type 0
NoPlaceByFields =
    (s : Settings) (len f : ℕ) → good_settings s len ≡ true → s.count ≢ 0 → f ≢ 0xe48bff57 → f ≢ 0xe48bff56
    → (place_of s len f ≡ None) ↔ ((k : ℕ) → Accepting s f k → ⊥)

-- ---- the passes

-- what passes 1 to 4 ask of an entry besides; "It is unowned with link none."
pub data Asks (s : Settings) (f : ℕ) (e : Entry) : ℕ → Type 0 where
  -- "only if the family is the current architecture's image: unowned, not marked not-bootable for it"
  pass_1_arm : s.current ≡ Arm → f ≡ 0xe48bff59 → e.link ≡ Unlinked → e.not_bootable_arm ≡ false → Asks s f e 1
  pass_1_riscv : s.current ≡ RiscV → f ≡ 0xe48bff5a → e.link ≡ Unlinked → e.not_bootable_riscv ≡ false → Asks s f e 1
  -- "only if auto switch is on, the other architecture is enabled and the family is its image: unowned, not marked for it"
  pass_2_riscv : s.current ≡ Arm → s.auto_switch ≡ true → s.riscv ≡ true → f ≡ 0xe48bff5a → e.link ≡ Unlinked → e.not_bootable_riscv ≡ false
      → Asks s f e 2
  pass_2_arm : s.current ≡ RiscV → s.auto_switch ≡ true → s.arm ≡ true → f ≡ 0xe48bff59 → e.link ≡ Unlinked → e.not_bootable_arm ≡ false
      → Asks s f e 2
  -- "unowned"
  pass_3 : e.link ≡ Unlinked → Asks s f e 3
  -- "any"
  pass_4 : Asks s f e 4

-- "each looks only at A entries that accept the family"
pub record Takes (s : Settings) (f p k : ℕ) : Type 0 where
  pub accepting : Accepting s f k
  pub asks : Asks s f (row s k) p

-- "four passes over the table, first to last, ending at the first match"
pub record First (s : Settings) (f p k : ℕ) : Type 0 where
  pub taken : Takes s f p k
  pub earlier : (q j : ℕ) → q < p → Takes s f q j → ⊥
  pub before : (j : ℕ) → j < k → Takes s f p j → ⊥

-- ---- the place: n bytes from byte a of the flash on

pub data HasPlace (s : Settings) (len f : ℕ) : ℕ → ℕ → Type 0 where
  -- "absolute: the whole flash if allowed, else no place. rp2040: no place."
  absolute : f ≡ 0xe48bff57 → s.absolute ≡ true → HasPlace s len f 0 len
  -- "Count 0, which is no table: data, arm-s (Arm enabled) and riscv (RISC-V enabled) get the whole flash. Others no place."
  whole_data : s.count ≡ 0 → f ≡ 0xe48bff58 → HasPlace s len f 0 len
  whole_arm_s : s.count ≡ 0 → f ≡ 0xe48bff59 → s.arm ≡ true → HasPlace s len f 0 len
  whole_riscv : s.count ≡ 0 → f ≡ 0xe48bff5a → s.riscv ≡ true → HasPlace s len f 0 len
  entry : (p k : ℕ) → f ≢ 0xe48bff57 → f ≢ 0xe48bff56 → First s f p k → HasPlace s len f ((row s k).first * 4096) ((row s k).sectors * 4096)

-- in both directions, so that every other family has none
unfoldable pub PlaceByFields : Type 0
PlaceByFields =
    (s : Settings) (len f a n : ℕ) → good_settings s len ≡ true → (place_of s len f ≡ Some (place_from a n)) ↔ HasPlace s len f a n
