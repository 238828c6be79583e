-- Bad settings by fields (01, "Settings and the place of a family"; row 2). Proved in proofs/Good.antt. Assumes nothing.
use Rattle.std.specs.Prelude.{ℕ, ◌+◌, ◌*◌, ◌<◌, ◌≤◌, ◌≡◌, ◌↔◌, ◌≢◌, false, get_or}
use Rattle.partitions.specs.declared.Settings.{Settings}
use Rattle.partitions.specs.declared.Entry.{Entry}
use Rattle.partitions.specs.declared.Link.TheVariants.{OwnedBy, BOf}
use Rattle.partitions.specs.declared.Arch.TheVariants.{Arm, RiscV}
use Rattle.partitions.specs.Settings.{good_settings}
use Rattle.settings_claims.specs.Targeting.{row}

-- an entry is linked to index j
pub data LinksTo (e : Entry) (j : ℕ) : Type 0 where
  owned : e.link ≡ OwnedBy j → LinksTo e j
  b_of : e.link ≡ BOf j → LinksTo e j

-- sector q is one of the entry's
abbrev pub Holds : Entry → ℕ → Type 0
Holds e q = (e.first ≤ q) × (q < e.first + e.sectors)

-- "Settings are bad if", for a flash of len bytes
pub data Bad (s : Settings) (len : ℕ) : Type 0 where
  -- "the current architecture isn't enabled"
  arm_off : s.current ≡ Arm → s.arm ≡ false → Bad s len
  riscv_off : s.current ≡ RiscV → s.riscv ≡ false → Bad s len
  -- "the count is over 16"
  count_over_case : 16 < s.count → Bad s len
  -- "or a used entry: has no sectors; runs past the flash;"
  no_sectors_case : (k : ℕ) → k < s.count → (row s k).sectors ≡ 0 → Bad s len
  past_flash : (k : ℕ) → k < s.count → len < ((row s k).first + (row s k).sectors) * 4096 → Bad s len
  -- "shares a sector with another;"
  shares : (k j q : ℕ) → k < s.count → j < s.count → j ≢ k → Holds (row s k) q → Holds (row s j) q → Bad s len
  -- "links to an index not below its own or to an entry that is "B of";"
  links_up_case : (k j : ℕ) → k < s.count → LinksTo (row s k) j → k ≤ j → Bad s len
  links_to_b_case : (k j i : ℕ) → k < s.count → LinksTo (row s k) j → (row s j).link ≡ BOf i → Bad s len
  -- "has more than 4 user families; or has a user family from 0xe48bff56 to 0xe48bff5b."
  many_users_case : (k : ℕ) → k < s.count → 4 < (row s k).user_count → Bad s len
  reserved_user_case : (k i : ℕ) → k < s.count → i < 4 → i < (row s k).user_count → 0xe48bff56 ≤ get_or (row s k).users i 0 → get_or (row s k).users i 0 ≤ 0xe48bff5b
      → Bad s len

-- and no others
unfoldable pub BadByFields : Type 0
BadByFields = (s : Settings) (len : ℕ) → (good_settings s len ≡ false) ↔ Bad s len
