-- When a family has no place, and where a place lies. Assumes nothing.
use Prim.Native.Nat.{ℕ, ◌*◌, ◌%◌, ◌≤◌, ◌<◌}
use mathlib.Core.Path.{◌≡◌, refl, sym, ap, ◌∙◌}
use mathlib.Core.Bool.{Bool, true, false, ◌&&◌}
use mathlib.Core.List.{List}
use native.Mathlib.Omega.{arith}
use lib.Dec.{leb, eqb}
use borrow.Author.Tests.{eqb-true, eqb-false}
use Rattle.std.specs.Prelude.{Some, None}
use Rattle.laws.proofs.Tests.{split, is_false, and_left, and_right}
use Rattle.memory.specs.Flash.{flash_length}
use Rattle.partitions.specs.declared.Entry as settings
use Rattle.partitions.specs.declared.Settings.{Settings}
use Rattle.partitions.specs.Settings.{family_rp2040, family_absolute, entry_at, is_a, accepts, good_settings}
use Rattle.partitions.proofs.Laws.{good_count, good_fits}
use Rattle.placement.specs.Place.{pass_allows, pass_takes, in_pass, chosen, used_count, pass_query_of, chosen_entry, gets_whole, whole_if, place_of_choice, place_of, Accepting, Inside, NoPlaceStated, PlaceInside, Choice, place_from}
use Rattle.placement.specs.declared.passes.PassQuery.{PassQuery}
use Rattle.placement.proofs.First.{first_all, first_none, if_taken, if_passed}
use Rattle.placement.proofs.Laws.{start_is, len_is, place_absolute, place_rp2040, place_whole, place_table, used_least, used_whole, chosen_taken}

-- ---- what the passes take

-- the last pass takes every A entry that accepts the family, and no pass takes another
last_takes : (w : PassQuery) (e : settings.Entry) → is_a e ≡ true → accepts e w.family ≡ true → pass_takes w 3 e ≡ true
unfolding pass_takes pass_allows
last_takes w e a h = rw (a, h)

takes_tells : (w : PassQuery) (pass : ℕ) (e : settings.Entry) → pass_takes w pass e ≡ true → (is_a e ≡ true) × (accepts e w.family ≡ true)
unfolding pass_takes
takes_tells w pass e h =
    let l = and_left (is_a e && accepts e w.family) (pass_allows w pass e) h in
    (and_left (is_a e) (accepts e w.family) l, and_right (is_a e) (accepts e w.family) l)

module _ (s : Settings) (f : ℕ) where
  -- the chosen entry is used, is an A entry and accepts the family
  pub chosen_accepts : {k : ℕ} → chosen_entry s f ≡ Some k → Accepting s f k
  unfolding chosen_entry pass_query_of
  chosen_accepts {k} h =
      let q = chosen_taken s.table (used_count s.count) (pass_query_of s f) h in
      let t = takes_tells (pass_query_of s f) q.0 (entry_at s.table k) q.2 in
      (omega (arith, q.1, used_least s.count), t.0, t.1)

  none_chosen : ((k : ℕ) → Accepting s f k → ⊥) → chosen_entry s f ≡ None
  unfolding chosen_entry chosen in_pass pass_query_of
  none_chosen h =
      first_none _ 4
      (λ pass l.
      first_none _ (used_count s.count)
      (λ k b.
      if_passed s.table (pass_query_of s f) pass k
      (is_false _
      (λ t.
      let a = takes_tells (pass_query_of s f) pass (entry_at s.table k) t in
      h k (omega (arith, used_least s.count), a.0, a.1)))))

  chosen_none : s.count ≤ 16 → chosen_entry s f ≡ None → (k : ℕ) → Accepting s f k → ⊥
  unfolding chosen_entry chosen in_pass pass_query_of
  chosen_none n e k h =
      let w = pass_query_of s f in
      let l : k < used_count s.count = omega (arith, h.0, used_whole s.count n) in
      let p = first_all _ (used_count s.count) (first_all _ 4 e 3 (omega arith)) k l in
      let q = if_taken s.table w 3 k (last_takes w (entry_at s.table k) h.1 h.2) in
      let x : Some k ≡ None = sym q ∙ p in
      let z : ◌≡◌ {A = ℕ} 0 1 = cc in
      omega arith

-- ---- no place

choice_none : (table : List settings.Entry) (c : Choice) → place_of_choice table c ≡ None → c ≡ None
choice_none table None e = refl
choice_none table (Some k) e = let z : ◌≡◌ {A = ℕ} 0 1 = cc in absurd (omega arith)

pub no_place : NoPlaceStated
no_place s len f good table na nr =
    let placed = place_table s len f na nr table in (
      λ e. chosen_none s f (good_count s len good) (choice_none s.table (chosen_entry s f) (sym placed ∙ e)),
      λ h. placed ∙ ap (place_of_choice s.table) (none_chosen s f h),
    )

-- ---- where a place lies

module _ (s : Settings) (len f : ℕ) (right : flash_length len ≡ true) (good : good_settings s len ≡ true) where
  sectors : len % 4096 ≡ 0
  unfolding flash_length
  sectors =
      eqb-true (len % 4096) 0
      (and_left (eqb (len % 4096) 0) (leb 4096 len) (and_left (eqb (len % 4096) 0 && leb 4096 len) (leb len 33554432) right))

  whole : {a n : ℕ} (b : Bool) → whole_if b len ≡ Some (place_from a n) → Inside len a n
  whole {a} {n} true h = let x : 0 ≡ a = start_is h in let y : len ≡ n = len_is h in let z = sectors in (omega arith, omega arith, omega arith)
  whole {a} {n} false h = let z : ◌≡◌ {A = ℕ} 0 1 = cc in absurd (omega arith)

  entry : {a n : ℕ} (c : Choice) → chosen_entry s f ≡ c → place_of_choice s.table c ≡ Some (place_from a n) → Inside len a n
  entry {a} {n} None q h = let z : ◌≡◌ {A = ℕ} 0 1 = cc in absurd (omega arith)
  entry {a} {n} (Some k) q h =
      let x : (entry_at s.table k).first * 4096 ≡ a = start_is h in
      let y : (entry_at s.table k).sectors * 4096 ≡ n = len_is h in
      (omega arith, omega arith, omega (arith, good_fits s len good k (chosen_accepts s f q).0))

  inside : {a n : ℕ} → place_of s len f ≡ Some (place_from a n) → Inside len a n
  inside {a} {n} e =
      split (eqb f family_absolute)
      (λ p. whole s.absolute (sym (place_absolute s len f (eqb-true f family_absolute p)) ∙ e))
      (λ p.
      let na = eqb-false f family_absolute p in
      split (eqb f family_rp2040)
      (λ q.
      let x : None ≡ Some (place_from a n) = sym (place_rp2040 s len f (eqb-true f family_rp2040 q)) ∙ e in
      let z : ◌≡◌ {A = ℕ} 0 1 = cc in
      absurd (omega arith))
      (λ q.
      let nr = eqb-false f family_rp2040 q in
      split (eqb s.count 0)
      (λ r. whole (gets_whole s.arm s.riscv f) (sym (place_whole s len f na nr (eqb-true s.count 0 r)) ∙ e))
      (λ r. entry (chosen_entry s f) refl (sym (place_table s len f na nr (eqb-false s.count 0 r)) ∙ e))))

pub place_inside : PlaceInside
place_inside s len f right good a n e = inside s len f right good e
