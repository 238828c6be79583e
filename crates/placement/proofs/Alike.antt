-- Settings that are alike have the same places: no pass looks at what is not used, or at "don't restart". Assumes nothing.
use Prim.Native.Nat.{ℕ, zero, suc, ◌<◌}
use mathlib.Core.Path.{◌≡◌, refl, ap, ◌∙◌}
use mathlib.Core.List.{List}
use native.Mathlib.Nat.{le_refl, le_step}
use native.Mathlib.Omega.{arith}
use Rattle.std.specs.Prelude.{Some, None}
use Rattle.laws.proofs.Laws.{any_cong}
use Rattle.partitions.specs.declared.Arch.{Arch}
use Rattle.partitions.specs.declared.Arch.TheVariants.{Arm, RiscV}
use Rattle.partitions.specs.declared.Entry as settings
use Rattle.partitions.specs.declared.Settings.{Settings}
use Rattle.partitions.specs.Settings.{entry_at}
use Rattle.partitions.specs.Alike.{AlikeEntry, Alike}
use Rattle.partitions.proofs.Alike.{user_alike, accepts_alike, enabled_alike, alike_good}
use Rattle.placement.specs.Place.{pass_query_of, pass_allows, pass_takes, first_of, entry_if, in_pass, chosen, used_count, chosen_entry, place_of_choice, place_of, user_of, ram_family, ask_of, AlikePlaces, Choice}
use Rattle.placement.specs.Passes.{other_arch, is_marked}
use Rattle.placement.specs.declared.passes.PassQuery.{PassQuery}
use Rattle.placement.proofs.Laws.{used_least}
use Rattle.placement.proofs.Theorems.{chosen_accepts}

-- ---- one entry

module _ {d e : settings.Entry} (h : AlikeEntry d e) where
  marked_alike : (a : Arch) → is_marked d a ≡ is_marked e a
  marked_alike Arm = h.not_bootable_arm
  marked_alike RiscV = h.not_bootable_riscv

  pub takes_alike : (w : PassQuery) (pass : ℕ) → pass_takes w pass d ≡ pass_takes w pass e
  unfolding pass_takes pass_allows
  takes_alike w pass =
      rw (accepts_alike h w.family, marked_alike w.current, marked_alike (other_arch w.current), h.link)

-- ---- the passes

first_cong : (g r : ℕ → Choice) (n : ℕ) → ((i : ℕ) → i < n → g i ≡ r i) → first_of g n ≡ first_of r n
unfolding first_of
first_cong g r zero h = refl
first_cong g r (suc n) h = rw (first_cong g r n (λ i l. h i (le_step l)), h n (le_refl (suc n)))

module _ (t u : List settings.Entry) (n : ℕ) (at : (k : ℕ) → k < n → AlikeEntry (entry_at t k) (entry_at u k)) (w : PassQuery) where
  if_alike : (pass k : ℕ) → k < n → entry_if t w pass k ≡ entry_if u w pass k
  unfolding entry_if
  if_alike pass k l = rw (takes_alike (at k l) w pass)

  chosen_alike : chosen t n w ≡ chosen u n w
  unfolding chosen in_pass
  chosen_alike =
      first_cong (in_pass t n w) (in_pass u n w) 4
      (λ pass l. first_cong (entry_if t w pass) (entry_if u w pass) n (λ k m. if_alike pass k m))

-- ---- the settings

module _ (s t : Settings) (h : Alike s t) where
  pub query_alike : (f : ℕ) → pass_query_of s f ≡ pass_query_of t f
  unfolding pass_query_of
  query_alike f = rw (enabled_alike s t h (other_arch s.current), h.current, h.auto_switch)

  pub looked : (k : ℕ) → k < used_count s.count → AlikeEntry (entry_at s.table k) (entry_at t.table k)
  looked k l = h.entries k (omega (arith, used_least s.count))

  entry_alike : (f : ℕ) → chosen_entry s f ≡ chosen_entry t f
  unfolding chosen_entry
  entry_alike f =
      chosen_alike s.table t.table (used_count s.count) looked (pass_query_of s f) ∙ rw (query_alike f, h.count)

  choice_alike : (f : ℕ) (c : Choice) → chosen_entry s f ≡ c → place_of_choice s.table c ≡ place_of_choice t.table c
  choice_alike f None e = refl
  choice_alike f (Some k) e =
      let at = h.entries k (chosen_accepts s f e).0 in
      rw (at.first, at.sectors)

  place_alike : (len f : ℕ) → place_of s len f ≡ place_of t len f
  unfolding place_of
  place_alike len f =
      let chosen = choice_alike f (chosen_entry s f) refl ∙ ap (place_of_choice t.table) (entry_alike f) in
      rw (chosen, h.absolute, h.arm, h.riscv, h.count)

  ram_alike : (f : ℕ) → ram_family s f ≡ ram_family t f
  unfolding ram_family
  ram_alike f =
      rw (
        any_cong (used_count s.count) (user_of s.table f) (user_of t.table f) (λ k l. user_alike (looked k l) f),
        h.count,
      )

  ask_alike : (len f : ℕ) → ask_of s len f ≡ ask_of t len f
  unfolding ask_of
  ask_alike len f = rw (alike_good s t len h, place_alike len f)

pub alike_places : AlikePlaces
alike_places s t len f h = (place_alike s t h len f, ram_alike s t h f, ask_alike s t h len f)
