-- The test for shared sectors is true exactly if some sector lies in both, and does not depend on the order. Assumes nothing.
use Prim.Native.Nat.{ℕ, ◌+◌, ◌≤◌, ◌<◌}
use mathlib.Core.Path.{◌≡◌}
use mathlib.Core.Logic.{◌↔◌, ◌≢◌}
use mathlib.Core.Bool.{true, false, ◌&&◌, not, and-false}
use mathlib.Core.List.{List}
use native.Mathlib.Omega.{arith}
use lib.Dec.{ltb, eqb}
use borrow.Author.Tests.{lt-ltb, le-ltb, ltb-true, ltb-false, eqb-false, ne_eqb, not-true}
use Rattle.laws.proofs.Tests.{split, and_left, and_right, both}
use Rattle.laws.proofs.Laws.{any_hit, any_found}
use Rattle.partitions.specs.declared.Entry.{Entry}
use Rattle.partitions.specs.Settings.{entry_at, overlap, overlap_at, shares_with, shares_sector}

-- sector x is one of the n from f
abbrev pub Within : ℕ → ℕ → ℕ → Type 0
Within f n x = (f ≤ x) × (x < f + n)

module _ (f n g m : ℕ) where
  pub overlap_yes : 0 < n → 0 < m → f < g + m → g < f + n → overlap f n g m ≡ true
  unfolding overlap
  overlap_yes a b c d = both (both (both (lt-ltb _ _ a) (lt-ltb _ _ b)) (lt-ltb _ _ c)) (lt-ltb _ _ d)

  pub overlap_before : g + m ≤ f → overlap f n g m ≡ false
  unfolding overlap
  overlap_before h = let z = le-ltb f (g + m) h in simp (z, and-false (ltb 0 n && ltb 0 m))

  pub overlap_after : f + n ≤ g → overlap f n g m ≡ false
  unfolding overlap
  overlap_after h = let z = le-ltb g (f + n) h in simp (z, and-false (ltb 0 n && ltb 0 m && ltb f (g + m)))

  pub overlap_tells : overlap f n g m ≡ true → (0 < n) × (0 < m) × (f < g + m) × (g < f + n)
  unfolding overlap
  overlap_tells h =
      let h3 = and_left (ltb 0 n && ltb 0 m && ltb f (g + m)) _ h in
      let h2 = and_left (ltb 0 n && ltb 0 m) _ h3 in (
        ltb-true _ _ (and_left (ltb 0 n) _ h2),
        ltb-true _ _ (and_right (ltb 0 n) _ h2),
        ltb-true _ _ (and_right (ltb 0 n && ltb 0 m) _ h3),
        ltb-true _ _ (and_right (ltb 0 n && ltb 0 m && ltb f (g + m)) _ h),
      )

  -- the test is true exactly if some sector lies in both
  pub overlap_exact : (overlap f n g m ≡ true) ↔ ((x : ℕ) × Within f n x × Within g m x)
  overlap_exact = (
    λ h.
        let t = overlap_tells h in
        split (ltb f g)
        (λ l. let b = ltb-true f g l in (g, (omega arith, omega (arith, t.3)), (omega arith, omega (arith, t.1))))
        (λ l. let b = ltb-false f g l in (f, (omega arith, omega (arith, t.0)), (omega arith, omega (arith, t.2)))),
    λ w.
        let a = w.1 in
        let b = w.2 in
        overlap_yes (omega arith) (omega arith) (omega arith) (omega arith),
  )

pub overlap_swaps : (f n g m : ℕ) → overlap f n g m ≡ true → overlap g m f n ≡ true
overlap_swaps f n g m h = let t = overlap_tells f n g m h in overlap_yes g m f n t.1 t.0 t.3 t.2

module _ (table : List Entry) (n k : ℕ) where
  -- sector x lies in entry k and in another used one, j
  abbrev pub Shared : ℕ → ℕ → Type 0
  Shared j x =
      (j < n)
      × (j ≢ k)
      × Within (entry_at table k).first (entry_at table k).sectors x
      × Within (entry_at table j).first (entry_at table j).sectors x

  -- entry k "shares a sector with another"
  pub shares_exact : (shares_sector table n k ≡ true) ↔ ((j : ℕ) × (x : ℕ) × Shared j x)
  unfolding shares_sector overlap_at
  shares_exact = (
    λ h.
        let w = any_found (shares_with table k) n h in
        let j = w.0 in
        let d = eqb-false j k (not-true _ (and_left (not (eqb j k)) (overlap_at table k j) w.2)) in
        let o = and_right (not (eqb j k)) (overlap_at table k j) w.2 in
        let t = (overlap_exact (entry_at table k).first (entry_at table k).sectors (entry_at table j).first (entry_at table j).sectors).0 o in
        (j, t.0, (w.1, d, t.1, t.2)),
    λ w.
        let j = w.0 in
        let s = w.2 in
        let o = (overlap_exact (entry_at table k).first (entry_at table k).sectors (entry_at table j).first (entry_at table j).sectors).1 (w.1, s.2, s.3) in
        any_hit (shares_with table k) n j s.0 (rw (ne_eqb j k s.1) o),
  )
