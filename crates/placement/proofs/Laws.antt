-- The place of a family by cases, and what a chosen entry tells. Assumes nothing.
use Prim.Native.Nat.{ℕ, ◌≤◌, ◌<◌}
use mathlib.Core.Path.{◌≡◌, refl, ap, ◌∙◌}
use mathlib.Core.Logic.{◌≢◌}
use mathlib.Core.Bool.{true, false, ◌&&◌}
use mathlib.Core.List.{List}
use native.Mathlib.Omega.{arith}
use lib.Dec.{leb}
use borrow.Author.Tests.{eq-eqb, ne_eqb, leb-true, leb-false}
use Rattle.std.specs.Option.{ok_or}
use Rattle.std.specs.Prelude.{Option, Some, None, Err}
use Rattle.laws.specs.Sets.{any}
use Rattle.laws.proofs.Tests.{split}
use Rattle.memory.specs.Flash.{flash_length}
use Rattle.partitions.specs.declared.Entry as settings
use Rattle.partitions.specs.declared.Settings.{Settings}
use Rattle.partitions.specs.Settings.{family_rp2040, family_absolute, family_data, family_arm_ns, entry_at, good_settings}
use Rattle.placement.specs.Place.{pass_takes, entry_if, in_pass, chosen, used_count, pass_query_of, chosen_entry, gets_whole, whole_if, place_of_choice, place_of, user_of, ram_family, found_at, ask_of, Choice}
use Rattle.placement.specs.declared.passes.PassQuery.{PassQuery}
use Rattle.placement.specs.declared.Place.{Place}
use Rattle.placement.specs.declared.PlaceError.TheVariants.{BadBuffers, BadSettings, NoPlace}
use Rattle.placement.proofs.First.{first_found}

-- ---- a place by its fields

module _ {p q : Place} (e : Some p ≡ Some q) where
  one : p ≡ q
  one = cc

  pub start_is : p.start ≡ q.start
  start_is = ap (λ (r : Place). r.start) one

  pub len_is : p.len ≡ q.len
  len_is = ap (λ (r : Place). r.len) one

-- ---- the place by cases

module _ (s : Settings) (len f : ℕ) where
  pub place_absolute : f ≡ family_absolute → place_of s len f ≡ whole_if s.absolute len
  unfolding place_of
  place_absolute h = let z = eq-eqb f family_absolute h in simp z

  pub place_rp2040 : f ≡ family_rp2040 → place_of s len f ≡ None
  unfolding place_of
  place_rp2040 h =
      let y = ne_eqb f family_absolute (λ e. absurd (omega arith)) in
      let z = eq-eqb f family_rp2040 h in
      simp (y, z)

  module _ (na : f ≢ family_absolute) (nr : f ≢ family_rp2040) where
    pub place_whole : s.count ≡ 0 → place_of s len f ≡ whole_if (gets_whole s.arm s.riscv f) len
    unfolding place_of
    place_whole h = let z = eq-eqb s.count 0 h in simp (ne_eqb f family_absolute na, ne_eqb f family_rp2040 nr, z)

    pub place_table : s.count ≢ 0 → place_of s len f ≡ place_of_choice s.table (chosen_entry s f)
    unfolding place_of
    place_table h = let z = ne_eqb s.count 0 h in simp (ne_eqb f family_absolute na, ne_eqb f family_rp2040 nr, z)

-- ---- how many entries are looked at

pub used_most : (n : ℕ) → used_count n ≤ 16
used_most n = split (leb n 16) (λ h. rw h (leb-true n 16 h)) (λ h. rw h (omega arith))

pub used_least : (n : ℕ) → used_count n ≤ n
used_least n = split (leb n 16) (λ h. rw h (omega arith)) (λ h. rw h (omega (arith, leb-false n 16 h)))

pub used_whole : (n : ℕ) → n ≤ 16 → n ≤ used_count n
used_whole n l = split (leb n 16) (λ h. rw h (omega arith)) (λ h. absurd (omega (arith, leb-false n 16 h)))

-- ---- families in RAM

module _ (s : Settings) (f : ℕ) where
  pub ram_named : leb family_data f && leb f family_arm_ns ≡ true → true ≡ ram_family s f
  unfolding ram_family
  ram_named h = rw h

  pub ram_other : leb family_data f && leb f family_arm_ns ≡ false → any (used_count s.count) (user_of s.table f) ≡ ram_family s f
  unfolding ram_family
  ram_other h = rw h

-- ---- the chosen entry

pub chosen_is : (s : Settings) (f n : ℕ) (w : PassQuery) {r : Choice} → r ≡ chosen s.table n w → n ≡ used_count s.count → w ≡ pass_query_of s f → r ≡ chosen_entry s f
unfolding chosen_entry
chosen_is s f n w h p q = h ∙ rw (p, q)

if_found : (table : List settings.Entry) (w : PassQuery) (pass i k : ℕ) → entry_if table w pass i ≡ Some k → (i ≡ k) × (pass_takes w pass (entry_at table i) ≡ true)
unfolding entry_if
if_found table w pass i k h =
    split (pass_takes w pass (entry_at table i))
    (λ t. let e : Some i ≡ Some k = rw t at h in (cc, t))
    (λ t. let e : None ≡ Some k = rw t at h in let z : ◌≡◌ {A = ℕ} 0 1 = cc in absurd (omega arith))

-- it is one of those looked at, and some pass takes it
pub chosen_taken : (table : List settings.Entry) (n : ℕ) (w : PassQuery) {k : ℕ} → chosen table n w ≡ Some k → (pass : ℕ) × (k < n) × (pass_takes w pass (entry_at table k) ≡ true)
unfolding chosen in_pass
chosen_taken table n w {k} h =
    let q = first_found _ 4 h in
    let r = first_found _ n q.2 in
    let t = if_found table w q.0 r.0 k r.2 in
    let e = t.0 in
    (q.0, rw e at r.1, rw e at t.1)

pub entry_below : (s : Settings) (f : ℕ) {k : ℕ} → chosen_entry s f ≡ Some k → k < 16
unfolding chosen_entry
entry_below s f h =
    omega (arith, (chosen_taken s.table (used_count s.count) (pass_query_of s f) h).1, used_most s.count)

-- ---- a place asked for alone, by cases

module _ (s : Settings) (len f : ℕ) where
  pub ask_length : flash_length len ≡ false → ask_of s len f ≡ Err BadBuffers
  unfolding ask_of
  ask_length h = simp h

  pub ask_settings : flash_length len ≡ true → good_settings s len ≡ false → ask_of s len f ≡ Err BadSettings
  unfolding ask_of
  ask_settings h g = simp (h, g)

  pub ask_place : flash_length len ≡ true → good_settings s len ≡ true → ask_of s len f ≡ found_at (place_of s len f)
  unfolding ask_of
  ask_place h g = simp (h, g)

pub found_or : (p : Option Place) → ok_or p NoPlace ≡ found_at p
found_or None = refl
found_or (Some p) = refl
