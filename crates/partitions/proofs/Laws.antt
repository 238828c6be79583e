-- The parts that the code checks make up the definition; and what good settings tell. Assumes nothing.
use Prim.Native.Nat.{ℕ, ◌+◌, ◌*◌, ◌≤◌, ◌<◌}
use mathlib.Core.Path.{◌≡◌, refl, ap, ◌∙◌}
use mathlib.Core.Logic.{◌≢◌}
use mathlib.Core.Bool.{Bool, true, false, ◌||◌, not, or-true, or_assoc, or_comm}
use mathlib.Core.List.{List}
use native.Mathlib.Omega.{arith}
use lib.Dec.{ltb, leb, eqb}
use borrow.Author.Tests.{le-leb, lt-leb, le-ltb, lt-ltb, ltb-true, ltb-false, eqb-false, ne_eqb, not-true}
use Rattle.laws.proofs.Tests.{split, clash, is_false, or_left, or_right}
use Rattle.laws.specs.Sets.{any}
use Rattle.laws.proofs.Laws.{any_zero, any_hit, any_none, any_all, any_found}
use Rattle.partitions.specs.declared.Entry.{Entry}
use Rattle.partitions.specs.declared.Settings.{Settings}
use Rattle.partitions.specs.Settings.{is_a, is_unowned, link_target, entry_at, enabled, count_over, no_sectors, runs_past, overlap_at, shares_with, shares_sector, links_up, links_to_b, many_users, reserved_user, bad_entry, good_settings}
use Rattle.partitions.specs.Parts.{alone_bad, link_bad, wrong_entry, shares_below}
use Rattle.partitions.proofs.Overlap.{overlap_swaps}

-- ---- one entry, as the loop over them takes it

module _ (table : List Entry) (len k : ℕ) where
  pub wrong_alone : alone_bad len (entry_at table k) ≡ true → wrong_entry table len k ≡ true
  unfolding wrong_entry
  wrong_alone h = rw h

  pub wrong_link : link_bad table k ≡ true → wrong_entry table len k ≡ true
  unfolding wrong_entry
  wrong_link h = rw (h, or-true (alone_bad len (entry_at table k)))

  pub right_entry : alone_bad len (entry_at table k) ≡ false → link_bad table k ≡ false → wrong_entry table len k ≡ false
  unfolding wrong_entry
  right_entry h l = rw (h, l)

module _ (table : List Entry) (k : ℕ) where
  pub link_up : is_unowned (entry_at table k) ≡ false → k ≤ link_target (entry_at table k).link → link_bad table k ≡ true
  unfolding link_bad
  link_up u l = simp (u, le-leb k (link_target (entry_at table k).link) l)

  pub link_to_b : is_unowned (entry_at table k) ≡ false → is_a (entry_at table (link_target (entry_at table k).link)) ≡ false → link_bad table k ≡ true
  unfolding link_bad
  link_to_b u a = simp (u, a, or-true (leb k (link_target (entry_at table k).link)))

  pub link_none : is_unowned (entry_at table k) ≡ true → link_bad table k ≡ false
  unfolding link_bad
  link_none u = simp u

  pub link_right : link_target (entry_at table k).link < k → is_a (entry_at table (link_target (entry_at table k).link)) ≡ true → link_bad table k ≡ false
  unfolding link_bad
  link_right l a = split (is_unowned (entry_at table k)) (λ u. simp u) (λ u. simp (u, a, lt-leb k (link_target (entry_at table k).link) l))

-- ---- all entries

or_swap : (a b c : Bool) → a || (b || c) ≡ b || (a || c)
or_swap true true c = refl
or_swap true false c = refl
or_swap false true c = refl
or_swap false false c = refl

-- the tests of the definition, in the order of the code
regroup : (a b s u t m r : Bool) → a || b || s || u || t || m || r ≡ a || b || m || r || (u || t) || s
regroup a b s u t m r = simp (or_assoc, or_comm, or_swap)

module _ (table : List Entry) (n len : ℕ) where
  splits : (k : ℕ) → bad_entry table n len k ≡ wrong_entry table len k || shares_sector table n k
  unfolding bad_entry wrong_entry alone_bad link_bad
  splits k =
      let e = entry_at table k in
      regroup (no_sectors e) (runs_past len e) (shares_sector table n k) (links_up table k) (links_to_b table k) (many_users e) (reserved_user e)

  wrong_bad : any n (wrong_entry table len) ≡ true → any n (bad_entry table n len) ≡ true
  wrong_bad h =
      let w = any_found (wrong_entry table len) n h in
      let z = w.2 in
      any_hit (bad_entry table n len) n w.0 w.1 (splits w.0 ∙ rw z)

  at_swaps : (k j : ℕ) → overlap_at table k j ≡ true → overlap_at table j k ≡ true
  unfolding overlap_at
  at_swaps k j h =
      overlap_swaps (entry_at table k).first (entry_at table k).sectors (entry_at table j).first (entry_at table j).sectors h

  shares_one : (k j : ℕ) → j < n → j ≢ k → overlap_at table k j ≡ true → shares_sector table n k ≡ true
  unfolding shares_sector
  shares_one k j l d h = any_hit (shares_with table k) n j l (rw (ne_eqb j k d, h))

  below_bad : any n (shares_below table) ≡ true → any n (bad_entry table n len) ≡ true
  unfolding shares_below
  below_bad h =
      let w = any_found (shares_below table) n h in
      let v = any_found (overlap_at table w.0) w.0 w.2 in
      let z = shares_one w.0 v.0 (omega (arith, w.1, v.1)) (omega (arith, v.1)) v.2 in
      any_hit (bad_entry table n len) n w.0 w.1 (splits w.0 ∙ rw z (or-true (wrong_entry table len w.0)))

  module _ (q : any n (shares_below table) ≡ false) where
    apart : (k j : ℕ) → k < n → j < k → overlap_at table k j ≡ false
    unfolding shares_below
    apart k j l m = any_all (overlap_at table k) k (any_all (shares_below table) n q k l) j m

    -- which of two entries comes first does not matter
    apart-both : (k j : ℕ) → k < n → j < n → j ≢ k → overlap_at table k j ≡ false
    apart-both k j l m d =
        split (ltb j k)
        (λ b. apart k j l (ltb-true j k b))
        (λ b.
        is_false (overlap_at table k j)
        (λ t. clash (overlap_at table j k) (at_swaps k j t) (apart j k m (omega (arith, ltb-false j k b)))))

    alone : (k : ℕ) → k < n → shares_sector table n k ≡ false
    unfolding shares_sector
    alone k l =
        any_none (shares_with table k) n
        (λ j m. split (eqb j k) (λ e. rw e) (λ e. let z = apart-both k j l m (eqb-false j k e) in rw (e, z)))

    right-all : any n (wrong_entry table len) ≡ false → any n (bad_entry table n len) ≡ false
    right-all p =
        any_none (bad_entry table n len) n
        (λ k l. let z = any_all (wrong_entry table len) n p k l in splits k ∙ rw z (alone k l))

-- ---- the settings

module _ (s : Settings) (len : ℕ) where
  pub good_off : enabled s s.current ≡ false → good_settings s len ≡ false
  unfolding good_settings
  good_off h = simp h

  pub good_over : 16 < s.count → good_settings s len ≡ false
  unfolding good_settings
  good_over h = let z = lt-ltb 16 s.count h in simp (z, or-true (not (enabled s s.current)))

  bad_any : any s.count (bad_entry s.table s.count len) ≡ true → good_settings s len ≡ false
  unfolding good_settings
  bad_any h = simp (h, or-true (not (enabled s s.current) || count_over s))

  pub good_wrong : any s.count (wrong_entry s.table len) ≡ true → good_settings s len ≡ false
  good_wrong h = bad_any (wrong_bad s.table s.count len h)

  right_any : enabled s s.current ≡ true → s.count ≤ 16 → any s.count (bad_entry s.table s.count len) ≡ false → good_settings s len ≡ true
  unfolding good_settings
  right_any e l h = let z = le-ltb 16 s.count l in simp (e, z, h)

  pub good_none : enabled s s.current ≡ true → s.count ≡ 0 → good_settings s len ≡ true
  good_none e z =
      right_any e (omega arith)
      (ap (λ (n : ℕ). any n (bad_entry s.table s.count len)) z ∙ any_zero (bad_entry s.table s.count len))

  -- what is left to ask of the entries
  pub good_rest : enabled s s.current ≡ true → s.count ≤ 16 → good_settings s len ≡ not (any s.count (wrong_entry s.table len) || any s.count (shares_below s.table))
  good_rest e l =
      split (any s.count (wrong_entry s.table len))
      (λ h. rw h (good_wrong h))
      (λ h.
      split (any s.count (shares_below s.table))
      (λ q. rw (h, q) (bad_any (below_bad s.table s.count len q)))
      (λ q. rw (h, q) (right_any e l (right-all s.table s.count len q h))))

-- ---- what good settings tell

module _ (s : Settings) (len : ℕ) (good : good_settings s len ≡ true) where
  parts : not (enabled s s.current) || count_over s || any s.count (bad_entry s.table s.count len) ≡ false
  unfolding good_settings
  parts = not-true _ good

  pub good_count : s.count ≤ 16
  good_count =
      ltb-false _ _
      (or_right (not (enabled s s.current)) (count_over s)
      (or_left _ (any s.count (bad_entry s.table s.count len)) parts))

  pub good_entry : (k : ℕ) → k < s.count → bad_entry s.table s.count len k ≡ false
  good_entry = any_all _ _ (or_right (not (enabled s s.current) || count_over s) _ parts)

  -- a used entry lies within the flash
  pub good_fits : (k : ℕ) → k < s.count → ((entry_at s.table k).first + (entry_at s.table k).sectors) * 4096 ≤ len
  unfolding bad_entry
  good_fits k l =
      let e = entry_at s.table k in
      let h6 = or_left _ (reserved_user e) (good_entry k l) in
      let h5 = or_left _ (many_users e) h6 in
      let h4 = or_left _ (links_to_b s.table k) h5 in
      let h3 = or_left _ (links_up s.table k) h4 in
      let h2 = or_left _ (shares_sector s.table s.count k) h3 in
      ltb-false _ _ (or_right (no_sectors e) (runs_past len e) h2)
