-- What is asked of settings whose bytes have no table. Assumes nothing.
use Prim.Native.Nat.{ℕ}
use mathlib.Core.Path.{◌≡◌, refl, ap, sym, ◌∙◌}
use mathlib.Core.Logic.{◌≢◌}
use mathlib.Core.Bool.{Bool, true, false, ◌&&◌, ◌||◌}
use mathlib.Core.List.{List}
use lib.Dec.{leb, eqb}
use borrow.Author.Tests.{eqb-true, eqb-false, ne_eqb}
use Rattle.std.specs.Prelude.{Option}
use Rattle.laws.specs.Sets.{any}
use Rattle.laws.proofs.Laws.{any_zero}
use Rattle.laws.proofs.Tests.{split}
use Rattle.partitions.specs.Settings.{good_settings, enabled, family_data, family_arm_ns, family_absolute, family_rp2040}
use Rattle.partitions.proofs.Laws.{good_off, good_none}
use Rattle.placement.specs.Passes.{used_count}
use Rattle.placement.specs.Place.{place_of, ram_family, user_of, whole_if, gets_whole}
use Rattle.placement.specs.declared.Place.{Place}
use Rattle.placement.proofs.Laws.{place_absolute, place_rp2040, place_whole}
use Rattle.uf2_checks.specs.Screen.{rooms_of}
use Rattle.settings_layout.specs.Layout.{byte_at, is_on, count_from, settings_from, settings_of}

or_none : (b : Bool) → b || false ≡ b
or_none true = refl
or_none false = refl

module _ (b : List ℕ) (z : count_from b ≡ 0) where
  none : (settings_from b).count ≡ 0
  unfolding settings_from settings_of
  none = z

  ram_without : (f : ℕ) → ram_family (settings_from b) f ≡ (leb family_data f && leb f family_arm_ns)
  unfolding ram_family
  ram_without f =
      ap (λ (n : ℕ). leb family_data f && leb f family_arm_ns || any (used_count n) (user_of (settings_from b).table f)) none
      ∙ ap (λ (x : Bool). leb family_data f && leb f family_arm_ns || x) (any_zero (user_of (settings_from b).table f))
      ∙ or_none (leb family_data f && leb f family_arm_ns)

  pub good_without : (len : ℕ) → good_settings (settings_from b) len ≡ enabled (settings_from b) (settings_from b).current
  good_without len =
      split (enabled (settings_from b) (settings_from b).current)
      (λ e. good_none (settings_from b) len e none ∙ sym e)
      (λ e. good_off (settings_from b) len e ∙ sym e)

  pub enabled_arm : byte_at b 2 ≡ 0 → enabled (settings_from b) (settings_from b).current ≡ is_on (byte_at b 0)
  unfolding settings_from settings_of
  enabled_arm e = rw e

  pub enabled_riscv : byte_at b 2 ≢ 0 → enabled (settings_from b) (settings_from b).current ≡ is_on (byte_at b 1)
  unfolding settings_from settings_of
  enabled_riscv d = let e = ne_eqb (byte_at b 2) 0 d in simp e

  -- rp2040 is no family that gets the whole flash
  place_without : (len : ℕ) {f : ℕ} → f ≢ family_absolute → place_of (settings_from b) len f ≡ whole_if (gets_whole (is_on (byte_at b 0)) (is_on (byte_at b 1)) f) len
  unfolding settings_from settings_of
  place_without len {f} d =
      split (eqb f family_rp2040)
      (λ e.
      let r = eqb-true f family_rp2040 e in
      place_rp2040 (settings_from b) len f r ∙ rw r refl)
      (λ e. place_whole (settings_from b) len f d (eqb-false f family_rp2040 e) none)

  pub place_absolute_without : (len : ℕ) {f : ℕ} {y : Bool} {p : Option Place} → f ≡ family_absolute → y ≡ is_on (byte_at b 4) → p ≡ whole_if y len → p ≡ place_of (settings_from b) len f
  unfolding settings_from settings_of
  place_absolute_without len {f} e hy hp = hp ∙ rw hy (sym (place_absolute (settings_from b) len f e))

  pub place_other_without : (len : ℕ) {f : ℕ} {arm riscv y : Bool} {p : Option Place} → f ≢ family_absolute → arm ≡ is_on (byte_at b 0) → riscv ≡ is_on (byte_at b 1) → y ≡ gets_whole arm riscv f → p ≡ whole_if y len → p ≡ place_of (settings_from b) len f
  place_other_without len d ha hr hy hp = hp ∙ rw (hy, ha, hr) (sym (place_without len d))

  pub rooms_without : (len f : ℕ) {p : Option Place} {y : Bool} → p ≡ place_of (settings_from b) len f → y ≡ (leb family_data f && leb f family_arm_ns) → record { flash = p; ram = y } ≡ rooms_of (settings_from b) len f
  rooms_without len f hp hy = rw (hp, hy ∙ sym (ram_without f)) refl
