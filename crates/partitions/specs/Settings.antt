-- Settings, and when they are bad (01, "Settings and the place of a family"). Numbers are natural, so nothing wraps. Assumes nothing.
use Rattle.std.specs.Prelude.{ℕ, ◌+◌, ◌*◌, Bool, true, false, ◌&&◌, ◌||◌, not, List, [], ltb, leb, eqb, get_or, replicate}
use Rattle.laws.specs.Sets.{any}
use Rattle.partitions.specs.declared.Entry.{Entry}
use Rattle.partitions.specs.declared.Settings.{Settings}
use Rattle.partitions.specs.declared.Arch.{Arch}
use Rattle.partitions.specs.declared.Arch.TheVariants.{Arm, RiscV}
use Rattle.partitions.specs.declared.Link.{Link}
use Rattle.partitions.specs.declared.Link.TheVariants.{Unlinked, OwnedBy, BOf}

-- "Families: rp2040 0xe48bff56, absolute ..57, data ..58, arm-s ..59, riscv ..5a, arm-ns ..5b."
abbrev pub family_rp2040 : ℕ
family_rp2040 = 0xe48bff56

abbrev pub family_absolute : ℕ
family_absolute = 0xe48bff57

abbrev pub family_data : ℕ
family_data = 0xe48bff58

abbrev pub family_arm_s : ℕ
family_arm_s = 0xe48bff59

abbrev pub family_risc_v : ℕ
family_risc_v = 0xe48bff5a

abbrev pub family_arm_ns : ℕ
family_arm_ns = 0xe48bff5b

-- ---- one entry

-- the link is "B of"
abbrev pub link_is_b : Link → Bool
link_is_b Unlinked = false
link_is_b (OwnedBy k) = false
link_is_b (BOf k) = true

-- "link none"
abbrev pub link_is_none : Link → Bool
link_is_none Unlinked = true
link_is_none (OwnedBy k) = false
link_is_none (BOf k) = false

-- "current (1 is RISC-V)" (02, L5)
abbrev pub arch_number : Arch → ℕ
arch_number Arm = 0
arch_number RiscV = 1

abbrev pub arch_from : Bool → Arch
arch_from true = RiscV
arch_from false = Arm

-- "link kind 2 (none, owned, B)" (02, L5)
abbrev pub link_kind : Link → ℕ
link_kind Unlinked = 0
link_kind (OwnedBy k) = 1
link_kind (BOf k) = 2

-- the index that a link names; 0 where it names none, which no test looks at
abbrev pub link_target : Link → ℕ
link_target Unlinked = 0
link_target (OwnedBy k) = k
link_target (BOf k) = k

-- "An entry is an A partition unless it is "B of"." (01's term: A partition)
abbrev pub is_a : Entry → Bool
is_a e = not (link_is_b e.link)

-- "It is unowned with link none." (01's term: unowned)
abbrev pub is_unowned : Entry → Bool
is_unowned e = link_is_none e.link

-- user family k of the entry, of at most 4, is f
abbrev pub user_is : Entry → ℕ → ℕ → Bool
user_is e f k = ltb k e.user_count && eqb (get_or e.users k 0) f

-- f is one of the entry's user families
unfoldable pub has_user : Entry → ℕ → Bool
has_user e f = any 4 (user_is e f)

-- the entry accepts the family: by the flag for it, or as a user family
unfoldable pub accepts : Entry → ℕ → Bool
accepts e f =
    eqb f family_data && e.«data»
    || eqb f family_arm_s && e.arm_s
    || eqb f family_risc_v && e.riscv
    || eqb f family_arm_ns && e.arm_ns
    || has_user e f

-- ---- the table

-- an entry of no sectors, which accepts nothing, by its user families that are not used
abbrev pub blank_with : List ℕ → Entry
blank_with us =
    record {
      first = 0;
      sectors = 0;
      users = us;
      «data» = false;
      arm_s = false;
      riscv = false;
      arm_ns = false;
      user_count = 0;
      not_bootable_arm = false;
      not_bootable_riscv = false;
      link = Unlinked;
      no_restart = false;
    }

-- what stands past the table's end, where no test looks
abbrev pub empty_entry : Entry
empty_entry = blank_with []

-- entry k of the table
abbrev pub entry_at : List Entry → ℕ → Entry
entry_at table k = get_or table k empty_entry

-- ---- what makes settings bad, in 01's order

-- "the current architecture isn't enabled"
abbrev pub enabled : Settings → Arch → Bool
enabled s Arm = s.arm
enabled s RiscV = s.riscv

-- "the count is over 16"
abbrev pub count_over : Settings → Bool
count_over s = ltb 16 s.count

-- "has no sectors"
abbrev pub no_sectors : Entry → Bool
no_sectors e = eqb e.sectors 0

-- "runs past the flash", whose length is in bytes
abbrev pub runs_past : ℕ → Entry → Bool
runs_past len e = ltb len ((e.first + e.sectors) * 4096)

-- a run of n sectors from f and one of m from g have a sector in common (proofs/Overlap.antt: exactly if some sector lies in both)
unfoldable pub overlap : ℕ → ℕ → ℕ → ℕ → Bool
overlap f n g m = ltb 0 n && ltb 0 m && ltb f (g + m) && ltb g (f + n)

-- entries k and j have a sector in common
unfoldable pub overlap_at : List Entry → ℕ → ℕ → Bool
overlap_at table k j =
    overlap (entry_at table k).first (entry_at table k).sectors (entry_at table j).first (entry_at table j).sectors

-- j is another than k, and shares a sector with it
abbrev pub shares_with : List Entry → ℕ → ℕ → Bool
shares_with table k j = not (eqb j k) && overlap_at table k j

-- "shares a sector with another", of the n used ones
unfoldable pub shares_sector : List Entry → ℕ → ℕ → Bool
shares_sector table n k = any n (shares_with table k)

-- "links to an index not below its own"
abbrev pub links_up : List Entry → ℕ → Bool
links_up table k = not (is_unowned (entry_at table k)) && leb k (link_target (entry_at table k).link)

-- "or to an entry that is "B of""
abbrev pub links_to_b : List Entry → ℕ → Bool
links_to_b table k = not (is_unowned (entry_at table k)) && not (is_a (entry_at table (link_target (entry_at table k).link)))

-- "has more than 4 user families"
abbrev pub many_users : Entry → Bool
many_users e = ltb 4 e.user_count

-- "from 0xe48bff56 to 0xe48bff5b"
abbrev pub is_reserved : ℕ → Bool
is_reserved f = leb family_rp2040 f && leb f family_arm_ns

-- user family k of the entry, of at most 4, is reserved
abbrev pub reserved_at : Entry → ℕ → Bool
reserved_at e k = ltb k e.user_count && is_reserved (get_or e.users k 0)

-- "has a user family from 0xe48bff56 to 0xe48bff5b"
unfoldable pub reserved_user : Entry → Bool
reserved_user e = any 4 (reserved_at e)

-- entry k of the n used ones is bad, for a flash of len bytes
unfoldable pub bad_entry : List Entry → ℕ → ℕ → ℕ → Bool
bad_entry table n len k =
    no_sectors (entry_at table k)
    || runs_past len (entry_at table k)
    || shares_sector table n k
    || links_up table k
    || links_to_b table k
    || many_users (entry_at table k)
    || reserved_user (entry_at table k)

-- "Settings are bad if the current architecture isn't enabled, the count is over 16, or a used entry" is bad
unfoldable pub good_settings : Settings → ℕ → Bool
good_settings s len =
    not (not (enabled s s.current) || count_over s || any s.count (bad_entry s.table s.count len))

-- ---- settings of a board with no partition table

-- a blank entry of the table, with its four user families
abbrev pub blank_entry : Entry
blank_entry = blank_with (replicate 4 0)

-- no partition table, Arm alone, absolute allowed or not
abbrev pub arm_only : Bool → Settings
arm_only b =
    record {
      arm = true;
      riscv = false;
      current = Arm;
      auto_switch = false;
      absolute = b;
      count = 0;
      table = replicate 16 blank_entry;
    }
