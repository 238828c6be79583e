-- No fault is found exactly in good settings, and each fault is a test of the numbers that it names. Assumes nothing.
use Prim.Native.Nat.{ℕ, zero, suc, ◌≤◌, ◌<◌}
use mathlib.Core.Path.{◌≡◌, refl, sym, ◌∙◌}
use mathlib.Core.Bool.{Bool, true, false, not, ◌||◌}
use native.Mathlib.Omega.{arith}
use lib.Dec.{ltb, eqb}
use borrow.Author.Tests.{lt-ltb, le-ltb, ltb-true, ltb-false}
use Rattle.laws.specs.Sets.{any, one}
use Rattle.laws.proofs.Tests.{split, clash, or_left, or_right}
use Rattle.laws.proofs.Laws.{any_none, any_all}
use Rattle.partitions.specs.declared.Settings.{Settings}
use Rattle.partitions.specs.Settings.{entry_at, enabled, no_sectors, runs_past, shares_with, shares_sector, links_up, links_to_b, many_users, reserved_user, bad_entry, good_settings}
use Rattle.partitions.proofs.Laws.{good_count, good_entry, good_off}
use Rattle.why_settings.specs.declared.Fault.{Fault}
use Rattle.why_settings.specs.declared.Fault.TheVariants.{ArchOff, CountOver, NoSectors, PastFlash, Shares, LinksUp, LinksToB, ManyUsers, ReservedUser}
use Rattle.std.specs.Prelude.{None, Some}
use Rattle.why_settings.specs.Faults.{each, condition_at, condition_for, bad_if, first_in, first_shared, first_fault, SoundIsGood, FaultIsTested}
use Rattle.why_settings.proofs.Laws.{reserved_user_case, each_none, each_all, condition_0, condition_1, condition_2, condition_3, condition_4, condition_5, condition_6, first_off, first_over_lem, first_entries}

not_sound : {A : Type 0} {x : Fault} → Some x ≡ None → A
not_sound h = let z : ◌≡◌ {A = ℕ} 0 1 = cc in absurd (omega arith)

clear : (b : Bool) (x : Fault) → bad_if b x ≡ None → b ≡ false
clear true x h = not_sound h
clear false x h = refl

-- ---- one entry

-- entry k, of n used ones, has none of the seven faults
record Clean (s : Settings) (len n k : ℕ) : Type 0 where
  sectors : no_sectors (entry_at s.table k) ≡ false
  within : runs_past len (entry_at s.table k) ≡ false
  alone : shares_sector s.table n k ≡ false
  down : links_up s.table k ≡ false
  to_a : links_to_b s.table k ≡ false
  few : many_users (entry_at s.table k) ≡ false
  free : reserved_user (entry_at s.table k) ≡ false

module _ (s : Settings) (len n k : ℕ) where
  clean_good : Clean s len n k → bad_entry s.table n len k ≡ false
  unfolding bad_entry
  clean_good C = rw (C.sectors, C.within, C.alone, C.down, C.to_a, C.few, C.free)

  good_clean : bad_entry s.table n len k ≡ false → Clean s len n k
  unfolding bad_entry
  good_clean h =
      let e = entry_at s.table k in
      let o2 = no_sectors e || runs_past len e in
      let o3 = o2 || shares_sector s.table n k in
      let o4 = o3 || links_up s.table k in
      let o5 = o4 || links_to_b s.table k in
      let o6 = o5 || many_users e in
      let h6 = or_left o6 (reserved_user e) h in
      let h5 = or_left o5 (many_users e) h6 in
      let h4 = or_left o4 (links_to_b s.table k) h5 in
      let h3 = or_left o3 (links_up s.table k) h4 in
      let h2 = or_left o2 (shares_sector s.table n k) h3 in
      record {
        sectors = or_left (no_sectors e) (runs_past len e) h2;
        within = or_right (no_sectors e) (runs_past len e) h2;
        alone = or_right o2 (shares_sector s.table n k) h3;
        down = or_right o3 (links_up s.table k) h4;
        to_a = or_right o4 (links_to_b s.table k) h5;
        few = or_right o5 (many_users e) h6;
        free = or_right o6 (reserved_user e) h;
      }

  shared_none : shares_sector s.table n k ≡ false → first_shared s.table n k ≡ None
  unfolding shares_sector first_shared
  shared_none h = rw h

  none_shared : first_shared s.table n k ≡ None → shares_sector s.table n k ≡ false
  unfolding shares_sector first_shared
  none_shared h = clear (any n (shares_with s.table k)) _ h

  clean_sound : Clean s len n k → (rule : ℕ) → rule < 7 → first_in s len (condition_at n rule k) ≡ None
  clean_sound C zero l = sym (condition_0 s len n k 0 refl (rw C.sectors))
  clean_sound C (suc zero) l = sym (condition_1 s len n k 1 refl (rw C.within))
  clean_sound C (suc (suc zero)) l = sym (condition_2 s len n k 2 refl (sym (shared_none C.alone)))
  clean_sound C (suc (suc (suc zero))) l = sym (condition_3 s len n k 3 refl (rw C.down))
  clean_sound C (suc (suc (suc (suc zero)))) l = sym (condition_4 s len n k 4 refl (rw C.to_a))
  clean_sound C (suc (suc (suc (suc (suc zero))))) l = sym (condition_5 s len n k 5 refl (rw C.few))
  clean_sound C (suc (suc (suc (suc (suc (suc r)))))) l =
      let m = suc (suc (suc (suc (suc (suc r))))) in
      sym
      (condition_6 s len n k m (λ h. absurd (omega arith)) (λ h. absurd (omega arith)) (λ h. absurd (omega arith)) (λ h. absurd (omega arith))
      (λ h. absurd (omega arith)) (λ h. absurd (omega arith)) (rw C.free))

  sound_clean : ((rule : ℕ) → rule < 7 → first_in s len (condition_at n rule k) ≡ None) → Clean s len n k
  sound_clean h =
      let e = entry_at s.table k in
      record {
        sectors = clear (no_sectors e) (NoSectors k) (condition_0 s len n k 0 refl refl ∙ h 0 (omega arith));
        within = clear (runs_past len e) (PastFlash k) (condition_1 s len n k 1 refl refl ∙ h 1 (omega arith));
        alone = none_shared (condition_2 s len n k 2 refl refl ∙ h 2 (omega arith));
        down = clear (links_up s.table k) (LinksUp k) (condition_3 s len n k 3 refl refl ∙ h 3 (omega arith));
        to_a = clear (links_to_b s.table k) (LinksToB k) (condition_4 s len n k 4 refl refl ∙ h 4 (omega arith));
        few = clear (many_users e) (ManyUsers k) (condition_5 s len n k 5 refl refl ∙ h 5 (omega arith));
        free = clear (reserved_user e) (ReservedUser k)
            (condition_6 s len n k 6 (λ h. absurd (omega arith)) (λ h. absurd (omega arith)) (λ h. absurd (omega arith)) (λ h. absurd (omega arith))
            (λ h. absurd (omega arith)) (λ h. absurd (omega arith)) refl ∙ h 6 (omega arith));
      }

-- ---- all entries

module _ (s : Settings) (len n : ℕ) where
  grid_sound : any n (bad_entry s.table n len) ≡ false → first_in s len (each (condition_for n) 7) ≡ None
  unfolding condition_for
  grid_sound h =
      each_none s len (condition_for n) 7
      (λ rule l.
      each_none s len (condition_at n rule) n
      (λ k b. clean_sound s len n k (good_clean s len n k (any_all (bad_entry s.table n len) n h k b)) rule l))

  sound_grid : first_in s len (each (condition_for n) 7) ≡ None → any n (bad_entry s.table n len) ≡ false
  unfolding condition_for
  sound_grid h =
      any_none (bad_entry s.table n len) n
      (λ k b.
      clean_good s len n k
      (sound_clean s len n k
      (λ rule l. each_all s len (condition_at n rule) n (each_all s len (condition_for n) 7 h rule l) k b)))

-- ---- the settings

module _ (s : Settings) (len : ℕ) where
  is_good_lem : enabled s s.current ≡ true → s.count ≤ 16 → any s.count (bad_entry s.table s.count len) ≡ false → good_settings s len ≡ true
  unfolding good_settings
  is_good_lem e l h = let z = le-ltb 16 s.count l in simp (e, z, h)

  good_enabled : good_settings s len ≡ true → enabled s s.current ≡ true
  good_enabled h = split (enabled s s.current) (λ e. e) (λ e. clash (good_settings s len) h (good_off s len e))

  good_sound : good_settings s len ≡ true → first_fault s len ≡ None
  good_sound h =
      first_entries s len (good_enabled h) (good_count s len h)
      ∙ grid_sound s len s.count (any_none (bad_entry s.table s.count len) s.count (good_entry s len h))

  sound_good : first_fault s len ≡ None → good_settings s len ≡ true
  sound_good h =
      split (enabled s s.current)
      (λ e.
      split (ltb 16 s.count)
      (λ o. not_sound (sym (first_over_lem s len e (ltb-true 16 s.count o)) ∙ h))
      (λ o.
      let l = ltb-false 16 s.count o in
      is_good_lem e l (sound_grid s len s.count (sym (first_entries s len e l) ∙ h))))
      (λ e. not_sound (sym (first_off s len e) ∙ h))

pub sound_is_good : SoundIsGood
sound_is_good s len = (sound_good s len, good_sound s len)

-- ---- the numbers

off_tested : (b : Bool) → not b ≡ eqb (one b) 0
off_tested true = refl
off_tested false = refl

pub fault_is_tested : FaultIsTested
fault_is_tested s len ArchOff h = off_tested (enabled s s.current)
fault_is_tested s len CountOver h = refl
fault_is_tested s len (NoSectors k) h = rw (lt-ltb k 16 h)
fault_is_tested s len (PastFlash k) h = rw (lt-ltb k 16 h)
fault_is_tested s len (Shares k j) h = refl
fault_is_tested s len (LinksUp k) h = rw (lt-ltb k 16 h)
fault_is_tested s len (LinksToB k) h = refl
fault_is_tested s len (ManyUsers k) h = rw (lt-ltb k 16 h)
fault_is_tested s len (ReservedUser k) h = rw (lt-ltb k 16 h) (sym (reserved_user_case (entry_at s.table k)))
