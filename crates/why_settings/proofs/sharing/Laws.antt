-- An entry beside the others of the table: what the code asks, and that past the table's end there is no sector. Assumes nothing.
use Prim.Native.Nat.{ℕ, ◌≤◌}
use mathlib.Core.Path.{◌≡◌, sym, ap, ◌∙◌}
use mathlib.Core.Bool.{Bool, false, not, ◌&&◌, and-false}
use mathlib.Core.List.{List}
use native.Mathlib.Omega.{arith}
use lib.Dec.{ltb, eqb}
use lib.ListN.{length, get_or-eq_default}
use borrow.Author.Tests.{ltb-true, ltb-false}
use Rattle.laws.specs.Sets.{any, least}
use Rattle.laws.proofs.Tests.{split}
use Rattle.laws.proofs.Laws.{any_none, any_all, least_none}
use Rattle.partitions.specs.declared.Entry.{Entry}
use Rattle.partitions.specs.Settings.{empty_entry, entry_at, overlap_at, shares_with}
use Rattle.partitions.proofs.Overlap.{overlap_before, overlap_after}

module _ (table : List Entry) (k : ℕ) where
  -- another entry, by what the code asks
  pub other_shares : (j : ℕ) {b v : Bool} → b ≡ overlap_at table k j → not (eqb j k) && b ≡ v → shares_with table k j ≡ v
  other_shares j h t = ap (λ (b : Bool). not (eqb j k) && b) (sym h) ∙ t

  module _ (l : length table ≡ 16) where
    empty-past : (i : ℕ) → 16 ≤ i → entry_at table i ≡ empty_entry
    empty-past i h = get_or-eq_default table empty_entry (omega (arith, l, h))

    -- an entry past the table's end shares none
    own-past : 16 ≤ k → (j : ℕ) → shares_with table k j ≡ false
    unfolding overlap_at
    own-past h j =
        rw (empty-past k h, overlap_after 0 0 (entry_at table j).first (entry_at table j).sectors (omega arith)) (and-false (not (eqb j k)))

    -- with an entry past the table's end none is shared
    other-past : (j : ℕ) → 16 ≤ j → shares_with table k j ≡ false
    unfolding overlap_at
    other-past j h =
        rw (empty-past j h, overlap_before (entry_at table k).first (entry_at table k).sectors 0 0 (omega arith)) (and-false (not (eqb j k)))

    pub least_own_past : (n : ℕ) → 16 ≤ k → n ≡ least n (shares_with table k)
    least_own_past n h = sym (least_none (shares_with table k) n (any_none (shares_with table k) n (λ j b. own-past h j)))

    pub least_past : (n j : ℕ) → 16 ≤ j → any j (shares_with table k) ≡ false → n ≡ least n (shares_with table k)
    least_past n j h q =
        sym
        (least_none (shares_with table k) n
        (any_none (shares_with table k) n
        (λ i b.
        split (ltb i j)
        (λ y. any_all (shares_with table k) j q i (ltb-true i j y))
        (λ y. other-past i (omega (arith, h, ltb-false i j y))))))
