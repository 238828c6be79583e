-- Laws of the first entry of several choices, one step of a loop each; and what a first entry tells. Assumes nothing.
use Prim.Native.Nat.{ℕ, zero, suc, ◌+◌, ◌<◌}
use mathlib.Core.Path.{◌≡◌, refl, ◌∙◌}
use mathlib.Core.Logic.{⊎_elim, ◌≢◌}
use mathlib.Core.Bool.{true, false}
use mathlib.Core.List.{List}
use native.Mathlib.Nat.{le_of_suc-le-suc, not-suc-le-zero, eq-or-lt_of_le, le_refl, le_step}
use native.Mathlib.Numerals.{add-one}
use native.Mathlib.Omega.{arith}
use Rattle.std.specs.Prelude.{Some, None}
use Rattle.partitions.specs.declared.Entry as settings
use Rattle.partitions.specs.Settings.{entry_at}
use Rattle.placement.specs.Place.{or_else, first_of, pass_takes, entry_if, Choice}
use Rattle.placement.specs.declared.passes.PassQuery.{PassQuery}

or_first : (a b : Choice) → or_else a b ≡ None → a ≡ None
or_first None b e = refl
or_first (Some k) b e = e

or_second : (a b : Choice) → or_else a b ≡ None → b ≡ None
or_second None b e = e
or_second (Some k) b e = let z : ◌≡◌ {A = ℕ} 0 1 = cc in absurd (omega arith)

module _ (g : ℕ → Choice) where
  pub first_zero : first_of g 0 ≡ None
  unfolding first_of
  first_zero = refl

  -- one choice more, as a loop takes it
  pub first_more : (i : ℕ) → first_of g i ≡ None → g i ≡ None → first_of g (i + 1) ≡ None
  unfolding first_of
  first_more i h q = rw (add-one, h, q)

  pub first_hit : (n i : ℕ) {k : ℕ} → i < n → first_of g i ≡ None → g i ≡ Some k → first_of g n ≡ Some k
  unfolding first_of
  first_hit zero i l h q = absurd (not-suc-le-zero l)
  first_hit (suc n) i l h q =
      ⊎_elim
      (λ (e : i ≡ n). rw (← e, h, q))
      (λ (b : i < n). rw (first_hit n i b h q))
      (eq-or-lt_of_le (le_of_suc-le-suc l))

  -- what is chosen is one of the choices
  pub first_found : (n : ℕ) {k : ℕ} → first_of g n ≡ Some k → (i : ℕ) × (i < n) × (g i ≡ Some k)
  unfolding first_of
  first_found zero e = let z : ◌≡◌ {A = ℕ} 0 1 = cc in absurd (omega arith)
  first_found (suc n) {k} e = go (first_of g n) refl (λ h. first_found n h)
    where
      go : (c : Choice) → first_of g n ≡ c → (first_of g n ≡ Some k → (i : ℕ) × (i < n) × (g i ≡ Some k)) → (i : ℕ) × (i < suc n) × (g i ≡ Some k)
      go None h f = (n, le_refl (suc n), rw h at e)
      go (Some j) h f = let r = f (h ∙ rw h at e) in (r.0, le_step r.1, r.2)

  -- where nothing is chosen, no choice is an entry
  pub first_all : (n : ℕ) → first_of g n ≡ None → (i : ℕ) → i < n → g i ≡ None
  unfolding first_of
  first_all zero e i l = absurd (not-suc-le-zero l)
  first_all (suc n) e i l =
      let h = or_first (first_of g n) (g n) e in
      ⊎_elim
      (λ (q : i ≡ n). rw (q, ← or_second (first_of g n) (g n) e))
      (λ (b : i < n). first_all n h i b)
      (eq-or-lt_of_le (le_of_suc-le-suc l))

  pub first_none : (n : ℕ) → ((i : ℕ) → i < n → g i ≡ None) → first_of g n ≡ None
  unfolding first_of
  first_none zero h = refl
  first_none (suc n) h = rw (first_none n (λ i l. h i (le_step l)), h n (le_refl (suc n)))

module _ (table : List settings.Entry) (w : PassQuery) (pass k : ℕ) where
  pub if_taken : pass_takes w pass (entry_at table k) ≡ true → entry_if table w pass k ≡ Some k
  unfolding entry_if
  if_taken h = rw h

  pub if_passed : pass_takes w pass (entry_at table k) ≡ false → entry_if table w pass k ≡ None
  unfolding entry_if
  if_passed h = rw h
