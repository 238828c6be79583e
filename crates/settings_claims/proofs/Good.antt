-- Bad settings by fields. Assumes nothing.
use Prim.Native.Nat.{ℕ, ◌+◌, ◌*◌, ◌<◌, ◌≤◌}
use mathlib.Core.Path.{◌≡◌, refl}
use mathlib.Core.Logic.{◌≢◌}
use mathlib.Core.Bool.{true, false, not, or-true}
use mathlib.Core.List.{List}
use lib.Dec.{ltb, leb, eqb}
use lib.ListN.{get_or}
use borrow.Author.Tests.{eqb-true, eqb-false, eq-eqb, ne_eqb, lt-ltb, ltb-true, le-leb, leb-true, not-true, not-false}
use Rattle.laws.specs.Sets.{any}
use Rattle.laws.proofs.Tests.{split, clash, and_left, and_right}
use Rattle.laws.proofs.Laws.{any_hit, any_found}
use Rattle.partitions.specs.declared.Settings.{Settings}
use Rattle.partitions.specs.declared.Entry.{Entry}
use Rattle.partitions.specs.declared.Arch.{Arch}
use Rattle.partitions.specs.declared.Arch.TheVariants.{Arm, RiscV}
use Rattle.partitions.specs.declared.Link.{Link}
use Rattle.partitions.specs.declared.Link.TheVariants.{Unlinked, OwnedBy, BOf}
use Rattle.partitions.specs.Settings.{link_is_b, link_is_none, link_target, is_a, is_unowned, entry_at, enabled, no_sectors, runs_past, overlap_at, shares_with, shares_sector, links_up, links_to_b, many_users, is_reserved, reserved_at, reserved_user, bad_entry, good_settings}
use Rattle.partitions.proofs.Laws.{good_off, good_over}
use Rattle.partitions.proofs.Overlap.{overlap_exact}
use Rattle.settings_claims.specs.Targeting.{row}
use Rattle.settings_claims.specs.Good.{LinksTo, owned, b_of, Bad, arm_off, riscv_off, count_over_case, no_sectors_case, past_flash, shares, links_up_case, links_to_b_case, many_users_case, reserved_user_case, BadByFields}

-- ---- links

links_said : (l : Link) (j : ℕ) → (l ≡ OwnedBy j) → (link_is_none l ≡ false) × (link_target l ≡ j)
links_said l j h = (rw h, rw h)

linked : (e : Entry) (j : ℕ) → LinksTo e j → (link_is_none e.link ≡ false) × (link_target e.link ≡ j)
linked e j (owned h) = (rw h, rw h)
linked e j (b_of h) = (rw h, rw h)

said_linked : (e : Entry) (l : Link) → e.link ≡ l → link_is_none l ≡ false → LinksTo e (link_target l)
said_linked e Unlinked q h = clash true refl h
said_linked e (OwnedBy k) q h = owned q
said_linked e (BOf k) q h = b_of q

b_said : (l : Link) → not (link_is_b l) ≡ false → (i : ℕ) × (l ≡ BOf i)
b_said Unlinked h = clash true refl h
b_said (OwnedBy k) h = clash true refl h
b_said (BOf k) h = (k, refl)

-- ---- one entry

module _ (s : Settings) (len : ℕ) where
  abbrev n : ℕ
  n = s.count

  abbrev t : List Entry
  t = s.table

  bad_entry_lem : (k : ℕ) → k < s.count → bad_entry t n len k ≡ true → good_settings s len ≡ false
  unfolding good_settings
  bad_entry_lem k l h = let z = any_hit (bad_entry t n len) n k l h in simp (z, or-true)

  shared : (k j q : ℕ) → j < s.count → j ≢ k → ((row s k).first ≤ q) × (q < (row s k).first + (row s k).sectors) → ((row s j).first ≤ q) × (q < (row s j).first + (row s j).sectors)
      → shares_sector t n k ≡ true
  unfolding shares_sector overlap_at
  shared k j q l d a b =
      any_hit (shares_with t k) n j l
      (rw (ne_eqb j k d) ((overlap_exact (row s k).first (row s k).sectors (row s j).first (row s j).sectors).1 (q, a, b)))

  said_bad : Bad s len → good_settings s len ≡ false
  unfolding bad_entry reserved_user
  said_bad (arm_off c h) = good_off s len (rw (c, h))
  said_bad (riscv_off c h) = good_off s len (rw (c, h))
  said_bad (count_over_case h) = good_over s len h
  said_bad (no_sectors_case k l h) = bad_entry_lem k l (simp (eq-eqb (row s k).sectors 0 h))
  said_bad (past_flash k l h) = bad_entry_lem k l (simp (lt-ltb len (((row s k).first + (row s k).sectors) * 4096) h, or-true))
  said_bad (shares k j q l m d a b) = bad_entry_lem k l (simp (shared k j q m d a b, or-true))
  said_bad (links_up_case k j l h u) =
      let x = linked (row s k) j h in
      bad_entry_lem k l (simp (x.0, x.1, le-leb k j u, or-true))
  said_bad (links_to_b_case k j i l h b) =
      let x = linked (row s k) j h in
      bad_entry_lem k l (simp (x.0, x.1, b, or-true))
  said_bad (many_users_case k l h) = bad_entry_lem k l (simp (lt-ltb 4 (row s k).user_count h, or-true))
  said_bad (reserved_user_case k i l m u p q) =
      let z : any 4 (reserved_at (row s k)) ≡ true =
      any_hit (reserved_at (row s k)) 4 i m (rw (lt-ltb i (row s k).user_count u, le-leb 0xe48bff56 (get_or (row s k).users i 0) p, le-leb (get_or (row s k).users i 0) 0xe48bff5b q)) in
      bad_entry_lem k l (simp (z, or-true))

  -- ---- and back

  by_arch : (a : Arch) → s.current ≡ a → enabled s a ≡ false → Bad s len
  by_arch Arm c h = arm_off c h
  by_arch RiscV c h = riscv_off c h

  entry_bad : (k : ℕ) → k < s.count → bad_entry t n len k ≡ true → Bad s len
  unfolding bad_entry shares_sector overlap_at reserved_user
  entry_bad k l h =
      let e = row s k in
      split (no_sectors e) (λ y. no_sectors_case k l (eqb-true e.sectors 0 y))
      (λ z1.
      split (runs_past len e) (λ y. past_flash k l (ltb-true len ((e.first + e.sectors) * 4096) y))
      (λ z2.
      split (any n (shares_with t k))
      (λ y.
      let w = any_found (shares_with t k) n y in
      let d = and_left (not (eqb w.0 k)) (overlap_at t k w.0) w.2 in
      let o = (overlap_exact e.first e.sectors (row s w.0).first (row s w.0).sectors).0 (and_right (not (eqb w.0 k)) (overlap_at t k w.0) w.2) in
      shares k w.0 o.0 l w.1 (eqb-false w.0 k (not-true _ d)) o.1 o.2)
      (λ z3.
      split (links_up t k)
      (λ y.
      let u = and_left (not (is_unowned e)) (leb k (link_target e.link)) y in
      links_up_case k (link_target e.link) l (said_linked e e.link refl (not-true _ u)) (leb-true k (link_target e.link) (and_right (not (is_unowned e)) (leb k (link_target e.link)) y)))
      (λ z4.
      split (links_to_b t k)
      (λ y.
      let u = and_left (not (is_unowned e)) (not (is_a (entry_at t (link_target e.link)))) y in
      let b = b_said (row s (link_target e.link)).link (not-true _ (and_right (not (is_unowned e)) (not (is_a (entry_at t (link_target e.link)))) y)) in
      links_to_b_case k (link_target e.link) b.0 l (said_linked e e.link refl (not-true _ u)) b.1)
      (λ z5.
      split (many_users e) (λ y. many_users_case k l (ltb-true 4 e.user_count y))
      (λ z6.
      let r : any 4 (reserved_at e) ≡ true = rw (z1, z2, z3, z4, z5, z6) at h in
      let w = any_found (reserved_at e) 4 r in
      let x = get_or e.users w.0 0 in
      let g = and_right (ltb w.0 e.user_count) (is_reserved x) w.2 in
      reserved_user_case k w.0 l w.1 (ltb-true w.0 e.user_count (and_left (ltb w.0 e.user_count) (is_reserved x) w.2))
      (leb-true 0xe48bff56 x (and_left (leb 0xe48bff56 x) (leb x 0xe48bff5b) g)) (leb-true x 0xe48bff5b (and_right (leb 0xe48bff56 x) (leb x 0xe48bff5b) g))))))))

  bad_said : good_settings s len ≡ false → Bad s len
  unfolding good_settings
  bad_said h =
      split (enabled s s.current)
      (λ y.
      split (ltb 16 s.count) (λ o. count_over_case (ltb-true 16 s.count o))
      (λ z.
      let a : any n (bad_entry t n len) ≡ true = not-false _ (rw (y, z) at h) in
      let w = any_found (bad_entry t n len) n a in
      entry_bad w.0 w.1 w.2))
      (λ z. by_arch s.current refl z)

pub bad_by_fields : BadByFields
unfolding BadByFields
bad_by_fields s len = (bad_said s len, said_bad s len)
