-- The rules of row 8 by cases, and the first match of the passes, one step of a loop each. Assumes nothing.
use Prim.Native.Nat.{ℕ, ◌+◌, ◌<◌}
use mathlib.Core.Path.{◌≡◌, refl, sym, ap, ◌∙◌}
use mathlib.Core.Logic.{◌≢◌}
use mathlib.Core.Bool.{Bool, true, false, cond, not, ◌&&◌}
use mathlib.Core.List.{List, [], ◌∷◌}
use native.Mathlib.Numerals.{add-one}
use native.Mathlib.Omega.{arith}
use lib.Dec.{ltb, eqb}
use lib.ListN.{length, get_or, set, replicate, length-set, length-replicate, get_or-replicate}
use lib.Seq.{get_or-set_same, get_or-set_other}
use borrow.Author.Tests.{eq-eqb, ne_eqb, eqb-true, eqb-false, lt-ltb, le-ltb, ltb-true, ltb-false}
use Rattle.laws.specs.Sets.{any, least}
use Rattle.laws.proofs.Tests.{split, and_left}
use Rattle.laws.proofs.Laws.{any_hit, any_found, least_is}
use Rattle.laws.proofs.TabLaws.{is_tab}
use Rattle.partitions.specs.declared.Entry as settings
use Rattle.partitions.specs.declared.Settings.{Settings}
use Rattle.partitions.specs.Settings.{family_rp2040, family_absolute, family_data, family_arm_s, family_risc_v, entry_at, is_a, accepts}
use Rattle.placement.specs.declared.passes.PassQuery.{PassQuery}
use Rattle.placement.specs.Place.{pass_query_of, pass_allows, pass_takes, used_count, ram_family}
use Rattle.std.specs.Prelude.{Option, None, Some, Result, Ok, Err}
use Rattle.why_place.specs.declared.Denial.{Denial}
use Rattle.why_place.specs.declared.Denial.TheVariants.{AbsoluteOff, Rp2040, NoEntry, NotForRam}
use Rattle.why_place.specs.declared.Origin.TheVariants as origin
use Rattle.why_place.specs.declared.Rule.TheVariants.{Absolute, NoTable}
use Rattle.why_place.specs.Parts.{denied_if, without_access, takes_in, FirstTaken}
use Rattle.why_place.specs.Placing.{no_table, takes_at, denies, first_denial, flash_access, ram_access, mark_for, mark_of, marks_of, taken_in, pass_has, pass_of, entry_in, table_spot, granted_spot, spot_of}

-- ---- the rules for the flash, by cases

module _ (s : Settings) (f : ℕ) where
  pub flash_absolute : f ≡ family_absolute → flash_access s f ≡ denied_if (not s.absolute) AbsoluteOff
  unfolding flash_access first_denial
  flash_absolute h = split (no_table s) (λ q. rw (h, q)) (λ q. rw (h, q))

  pub flash_rp2040 : f ≡ family_rp2040 → flash_access s f ≡ Err Rp2040
  unfolding flash_access first_denial
  flash_rp2040 h = rw h

  module _ (na : f ≢ family_absolute) (nr : f ≢ family_rp2040) where
    pub flash_whole : s.count ≡ 0 → flash_access s f ≡ without_access s.arm s.riscv f
    unfolding flash_access first_denial without_access
    flash_whole h =
        let z = eq-eqb s.count 0 h in
        split (eqb f family_data)
        (λ d. rw (eqb-true f family_data d, z))
        (λ d.
        split (eqb f family_arm_s)
        (λ a. rw (eqb-true f family_arm_s a, z))
        (λ a.
        split (eqb f family_risc_v)
        (λ r. rw (eqb-true f family_risc_v r, z))
        (λ r. rw (ne_eqb f family_absolute na, ne_eqb f family_rp2040 nr, d, a, r, z))))

    pub flash_table : s.count ≢ 0 → flash_access s f ≡ denied_if (not (any (used_count s.count) (takes_at s.table f))) NoEntry
    unfolding flash_access first_denial
    flash_table h = rw (ne_eqb f family_absolute na, ne_eqb f family_rp2040 nr, ne_eqb s.count 0 h)

  pub ram_by : ram_access s f ≡ denied_if (not (ram_family s f)) NotForRam
  unfolding ram_access first_denial
  ram_by = refl

  -- the rule that shuts a family out is one that does
  pub denial_true : (l : List Denial) {x : Denial} → first_denial s f l ≡ Err x → denies s f x ≡ true
  unfolding first_denial
  denial_true [] h = let z : ◌≡◌ {A = ℕ} 0 1 = cc in absurd (omega arith)
  denial_true (y ∷ l) {x} h =
      split (denies s f y)
      (λ t. let q : Err y ≡ Err x = rw t at h in let e : y ≡ x = cc in rw (← e) t)
      (λ t. denial_true l (rw t at h))

-- ---- the test of an entry, as the code makes it

pub takes_by : (table : List settings.Entry) (f k : ℕ) {a b v : Bool} → a ≡ is_a (entry_at table k) → b ≡ accepts (entry_at table k) f → a && b ≡ v → takes_at table f k ≡ v
unfolding takes_at
takes_by table f k p q h = rw (← p, ← q) h

module _ (s : Settings) (f p k : ℕ) where
  -- what a pass takes is an A entry that accepts the family
  pub taken_takes : taken_in s f p k ≡ true → takes_at s.table f k ≡ true
  unfolding taken_in takes_at pass_takes pass_query_of
  taken_takes h = and_left (is_a (entry_at s.table k) && accepts (entry_at s.table k) f) (pass_allows (pass_query_of s f) p (entry_at s.table k)) h

-- the last pass takes every such entry
pub last_takes : (s : Settings) (f k : ℕ) → takes_at s.table f k ≡ true → taken_in s f 3 k ≡ true
unfolding taken_in takes_at pass_takes pass_allows pass_query_of
last_takes s f k h = rw h

module _ (s : Settings) (f : ℕ) where
  -- so a pass takes one exactly if there is one
  pub takes_pass : any (used_count s.count) (takes_at s.table f) ≡ true → any 4 (pass_has s f) ≡ true
  unfolding pass_has
  takes_pass h =
      let n = used_count s.count in
      let q = any_found (takes_at s.table f) n h in
      any_hit (pass_has s f) 4 3 (omega arith) (any_hit (taken_in s f 3) n q.0 q.1 (last_takes s f q.0 q.2))

  -- what a pass takes first, as the code finds it
  module _ (p : ℕ) {w : PassQuery} (q : w ≡ pass_query_of s f) {r : Option ℕ} (t : FirstTaken s.table w p (used_count s.count) r) where
    pub pass_none : r ≡ None → pass_has s f p ≡ false
    unfolding pass_has taken_in takes_in
    pass_none e = rw (q, e) at t

    pub pass_some : {k : ℕ} → r ≡ Some k → (k < used_count s.count) × (any k (taken_in s f p) ≡ false) × (taken_in s f p k ≡ true)
    unfolding taken_in takes_in
    pass_some e = rw (q, e) at t

  pub spot_found : (p k : ℕ) → p < 4 → k < used_count s.count → any p (pass_has s f) ≡ false → any k (taken_in s f p) ≡ false → taken_in s f p k ≡ true → Ok (origin.Entry (p + 1) k) ≡ table_spot s f
  unfolding table_spot pass_of entry_in pass_has
  spot_found p k l b e q t =
      let n = used_count s.count in
      let x : least 4 (pass_has s f) ≡ p = least_is (pass_has s f) 4 p l e (any_hit (taken_in s f p) n k b t) in
      let y : least n (taken_in s f p) ≡ k = least_is (taken_in s f p) n k b q t in
      rw (x, y, add-one)

-- ---- a place by cases

pub not_granted : {A : Type 0} {x : Denial} → ◌≡◌ {A = Result (Unit {0}) Denial} (Err x) (Ok tt) → A
not_granted h = let z : ◌≡◌ {A = ℕ} 0 1 = cc in absurd (omega arith)

pub granted_if : (b : Bool) (x : Denial) → denied_if (not b) x ≡ Ok tt → b ≡ true
granted_if true x h = refl
granted_if false x h = not_granted h

module _ (s : Settings) (f : ℕ) where
  pub spot_refused : {x : Denial} → flash_access s f ≡ Err x → spot_of s f ≡ Err x
  unfolding spot_of
  spot_refused h = rw h

  module _ (h : flash_access s f ≡ Ok tt) where
    pub spot_absolute : f ≡ family_absolute → spot_of s f ≡ Ok (origin.Whole Absolute)
    unfolding spot_of granted_spot
    spot_absolute a = rw (h, eq-eqb f family_absolute a)

    module _ (na : f ≢ family_absolute) where
      pub spot_whole : s.count ≡ 0 → spot_of s f ≡ Ok (origin.Whole NoTable)
      unfolding spot_of granted_spot
      spot_whole z = rw (h, ne_eqb f family_absolute na, eq-eqb s.count 0 z)

      pub spot_table : s.count ≢ 0 → spot_of s f ≡ table_spot s f
      unfolding spot_of granted_spot
      spot_table z = rw (h, ne_eqb f family_absolute na, ne_eqb s.count 0 z)

      pub granted_other : f ≢ family_rp2040
      granted_other e = not_granted (sym (flash_rp2040 s f e) ∙ h)

      pub granted_takes : s.count ≢ 0 → any (used_count s.count) (takes_at s.table f) ≡ true
      granted_takes z = granted_if (any (used_count s.count) (takes_at s.table f)) NoEntry (sym (flash_table s f na granted_other z) ∙ h)

-- ---- the marks

-- the marks of the entries before k, and 0 from there on
unfoldable pub MarkedTo : Settings → ℕ → ℕ → List ℕ → Type 0
MarkedTo s f k out = (length out ≡ 16) × ((j : ℕ) → j < 16 → get_or out j 0 ≡ cond (ltb j k) (mark_for (entry_at s.table j) f) 0)

module _ (s : Settings) (f : ℕ) where
  pub marked_none : MarkedTo s f 0 (replicate 16 0)
  unfolding MarkedTo
  marked_none = (length-replicate {A = ℕ} 16 0, λ j l. rw (get_or-replicate {A = ℕ} 16 j 0 0 l, le-ltb j 0 (omega arith)))

  pub marked_more : (k : ℕ) (out : List ℕ) {m : ℕ} → k < 16 → MarkedTo s f k out → m ≡ mark_for (entry_at s.table k) f → MarkedTo s f (k + 1) (set out k m)
  unfolding MarkedTo
  marked_more k out {m} l h q = (
    length-set out k m ∙ h.0,
    λ j b.
        let n = h.0 in
        split (eqb j k)
        (λ x. let y = eqb-true j k x in rw (y, get_or-set_same out k m 0 (omega arith), lt-ltb k (k + 1) (omega arith)) q)
        (λ x. let d = eqb-false j k x in rw (get_or-set_other out k j m 0 d) (h.1 j b ∙ past j k d)),
  )
    where
      past : (j k : ℕ) → j ≢ k → cond (ltb j k) (mark_for (entry_at s.table j) f) 0 ≡ cond (ltb j (k + 1)) (mark_for (entry_at s.table j) f) 0
      past j k d =
          split (ltb j k)
          (λ t. let l = ltb-true j k t in rw (t, lt-ltb j (k + 1) (omega arith)))
          (λ t. let l = ltb-false j k t in rw (t, le-ltb j (k + 1) (omega arith)))

  pub marked_all : (k : ℕ) (out : List ℕ) → k ≡ used_count s.count → MarkedTo s f k out → out ≡ marks_of s f
  unfolding MarkedTo marks_of mark_of
  marked_all k out e h = is_tab out 16 (mark_of s f) h.0 (λ j l. h.1 j l ∙ ap (λ (n : ℕ). cond (ltb j n) (mark_for (entry_at s.table j) f) 0) e)
