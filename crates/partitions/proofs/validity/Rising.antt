-- Entries of which each begins past the one before: no two of them share a sector. Assumes nothing.
use Prim.Native.Nat.{ℕ, ◌+◌, ◌≤◌, ◌<◌}
use mathlib.Core.Path.{◌≡◌}
use mathlib.Core.Bool.{Bool, true, false, ◌&&◌, ◌||◌}
use mathlib.Core.List.{List}
use native.Mathlib.Omega.{arith}
use lib.Dec.{leb, eqb}
use borrow.Author.Tests.{leb-true, eqb-true, eqb-false}
use Rattle.laws.proofs.Tests.{split, and_left, and_right}
use Rattle.laws.specs.Sets.{any}
use Rattle.laws.proofs.Laws.{any_zero, any_more, any_none, any_hit}
use Rattle.partitions.specs.declared.Entry.{Entry}
use Rattle.partitions.specs.Settings.{entry_at, overlap_at}
use Rattle.partitions.specs.Parts.{wrong_entry, shares_below}
use Rattle.partitions.proofs.Overlap.{overlap_before}

-- the first k entries end by sector `past`, and none shares a sector with one before it
pub record Apart (table : List Entry) (k past : ℕ) : Type 0 where
  pub ends : (j : ℕ) → j < k → (entry_at table j).first + (entry_at table j).sectors ≤ past
  pub none : any k (shares_below table) ≡ false

module _ (table : List Entry) where
  pub apart_none : (past : ℕ) → Apart table 0 past
  apart_none past = record { ends = λ j l. omega (arith, l); none = any_zero (shares_below table) }

  module _ (k past : ℕ) (a : Apart table k past) (h : past ≤ (entry_at table k).first) where
    ends_more : (j : ℕ) → j < k + 1 → (entry_at table j).first + (entry_at table j).sectors ≤ (entry_at table k).first + (entry_at table k).sectors
    ends_more j l =
        split (eqb j k)
        (λ e. let z : j ≡ k = eqb-true j k e in rw z (omega arith))
        (λ e. let d = eqb-false j k e in omega (arith, h, a.ends j (omega (arith, l, d))))

    apart-here : shares_below table k ≡ false
    unfolding shares_below overlap_at
    apart-here = any_none (overlap_at table k) k (λ j l. overlap_before _ _ _ _ (omega (arith, h, a.ends j l)))

    pub apart_more : Apart table (k + 1) ((entry_at table k).first + (entry_at table k).sectors)
    apart_more = record { ends = ends_more; none = any_more (shares_below table) k a.none apart-here }

  -- as the loop keeps it: `rising` says whether all were so till here
  pub rising_more : (k past : ℕ) (rising : Bool) → (rising ≡ true → Apart table k past) → rising && leb past (entry_at table k).first ≡ true → Apart table (k + 1) ((entry_at table k).first + (entry_at table k).sectors)
  rising_more k past rising f h =
      apart_more k past (f (and_left rising _ h)) (leb-true _ _ (and_right rising (leb past (entry_at table k).first) h))

  -- one wrong entry is enough
  pub wrong_hit : (len n k : ℕ) → k < n → wrong_entry table len k ≡ true → any n (wrong_entry table len) || any n (shares_below table) ≡ true
  wrong_hit len n k l h = rw (any_hit (wrong_entry table len) n k l h)
