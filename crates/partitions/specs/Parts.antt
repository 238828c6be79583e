-- The definition of bad settings, cut as the code checks it. Assumes nothing.
use Rattle.std.specs.Prelude.{ℕ, Bool, ◌&&◌, ◌||◌, List, ltb, get_or}
use Rattle.laws.specs.Sets.{any}
use Rattle.partitions.specs.declared.Entry.{Entry}
use Rattle.partitions.specs.Settings.{entry_at, no_sectors, runs_past, overlap_at, links_up, links_to_b, many_users, reserved_user}

-- user family k of the entry, of at most 4, meets p
abbrev pub user_meets : (ℕ → Bool) → Entry → ℕ → Bool
user_meets p e k = ltb k e.user_count && p (get_or e.users k 0)

-- what is wrong with an entry by itself
unfoldable pub alone_bad : ℕ → Entry → Bool
alone_bad len e = no_sectors e || runs_past len e || many_users e || reserved_user e

-- what is wrong with its link: "links to an index not below its own or to an entry that is "B of""
unfoldable pub link_bad : List Entry → ℕ → Bool
link_bad table k = links_up table k || links_to_b table k

-- what is wrong with entry k but for shared sectors
unfoldable pub wrong_entry : List Entry → ℕ → ℕ → Bool
wrong_entry table len k = alone_bad len (entry_at table k) || link_bad table k

-- entry k shares a sector with one before it
unfoldable pub shares_below : List Entry → ℕ → Bool
shares_below table k = any k (overlap_at table k)
