-- Laws of the first fault, one step of a loop each. Assumes nothing.
use Prim.Native.Nat.{ℕ, zero, suc, ◌+◌, ◌≤◌, ◌<◌}
use mathlib.Core.Path.{◌≡◌, refl, sym, ap, ◌∙◌}
use mathlib.Core.Logic.{⊎_elim, ◌≢◌}
use mathlib.Core.Bool.{Bool, true, false, cond, ◌||◌}
use mathlib.Core.List.{List, [], ◌∷◌, ◌++◌}
use native.Mathlib.Nat.{le_of_suc-le-suc, not-suc-le-zero, eq-or-lt_of_le, le_refl, le_step}
use native.Mathlib.Numerals.{add-one}
use native.Mathlib.Omega.{arith}
use lib.Dec.{ltb}
use lib.ListN.{get_or}
use borrow.Author.Tests.{ne_eqb, lt-ltb, le-ltb}
use Rattle.laws.specs.Sets.{any, least}
use Rattle.laws.proofs.Tests.{split, and_right}
use Rattle.laws.proofs.Laws.{any_all, least_below, least_none}
use Rattle.partitions.specs.declared.Entry.{Entry}
use Rattle.partitions.specs.declared.Settings.{Settings}
use Rattle.partitions.specs.Settings.{is_reserved, reserved_at, entry_at, shares_with, no_sectors, runs_past, links_up, links_to_b, many_users, reserved_user, enabled}
use Rattle.why_settings.specs.declared.Fault.{Fault}
use Rattle.why_settings.specs.declared.Fault.TheVariants.{ArchOff, CountOver, NoSectors, PastFlash, Shares, LinksUp, LinksToB, ManyUsers, ReservedUser}
use Rattle.std.specs.Prelude.{Option, None, Some}
use Rattle.std.specs.Bool.{then_some}
use Rattle.why_settings.specs.Faults.{fault_in, each, sharing, condition_at, condition_for, faults_of, bad_if, first_in, first_shared, first_fault, first_reserved}

-- a fault where a test holds, as the library says it
pub bad_is : (b : Bool) (x : Fault) → then_some b x ≡ bad_if b x
bad_is true x = refl
bad_is false x = refl

-- ---- the first user family that is reserved

module _ (e : Entry) where
  -- the first of the four, as a loop meets it
  pub reserved_hit : (k : ℕ) → k < 4 → ((j : ℕ) → j < k → reserved_at e j ≡ false) → reserved_at e k ≡ true → get_or e.users k 0 ≡ first_reserved e
  unfolding first_reserved
  reserved_hit zero l n h = rw h
  reserved_hit (suc zero) l n h = rw (n 0 (omega arith), h)
  reserved_hit (suc (suc zero)) l n h = rw (n 0 (omega arith), n 1 (omega arith), h)
  reserved_hit (suc (suc (suc zero))) l n h = rw (n 0 (omega arith), n 1 (omega arith), n 2 (omega arith), h)
  reserved_hit (suc (suc (suc (suc k)))) l n h = absurd (omega arith)

  pub reserved_none : ((j : ℕ) → j < 4 → reserved_at e j ≡ false) → 0 ≡ first_reserved e
  unfolding first_reserved
  reserved_none n = rw (n 0 (omega arith), n 1 (omega arith), n 2 (omega arith), n 3 (omega arith))

-- it tells whether there is one
pub reserved_user_case : (e : Entry) → is_reserved (first_reserved e) ≡ reserved_user e
unfolding first_reserved reserved_user any
reserved_user_case e =
    four (reserved_at e 0) (reserved_at e 1) (reserved_at e 2) (reserved_at e 3) (user 0) (user 1) (user 2) (user 3) (tells 0) (tells 1) (tells 2) (tells 3)
  where
    user : ℕ → ℕ
    user k = get_or e.users k 0

    tells : (k : ℕ) → reserved_at e k ≡ true → is_reserved (user k) ≡ true
    tells k h = and_right (ltb k e.user_count) (is_reserved (user k)) h

    four : (a b c d : Bool) (p q r s : ℕ) → (a ≡ true → is_reserved p ≡ true) → (b ≡ true → is_reserved q ≡ true) → (c ≡ true → is_reserved r ≡ true) → (d ≡ true → is_reserved s ≡ true) → is_reserved (cond a p (cond b q (cond c r (cond d s 0)))) ≡ false || a || b || c || d
    four true b c d p q r s f g h i = f refl
    four false true c d p q r s f g h i = g refl
    four false false true d p q r s f g h i = h refl
    four false false false true p q r s f g h i = i refl
    four false false false false p q r s f g h i = refl

-- ---- the first other entry

pub least_most : (P : ℕ → Bool) (n : ℕ) → least n P ≤ n
least_most P n = split (any n P) (λ h. omega (arith, (least_below P n h).0)) (λ h. omega (arith, least_none P n h))

pub shared_by : (table : List Entry) (n k j : ℕ) → j ≡ least n (shares_with table k) → bad_if (ltb j n) (Shares k j) ≡ first_shared table n k
unfolding first_shared
shared_by table n k j h =
    rw h
    (split (any n (shares_with table k))
    (λ q. rw (q, lt-ltb (least n (shares_with table k)) n (least_below (shares_with table k) n q).0))
    (λ q. rw (q, le-ltb (least n (shares_with table k)) n (omega (arith, least_none (shares_with table k) n q)))))

-- ---- the first of several lists

abbrev or_next : Option Fault → Option Fault → Option Fault
or_next None y = y
or_next (Some x) y = Some x

module _ (s : Settings) (len : ℕ) where
  first_join : (l m : List Fault) → first_in s len (l ++ m) ≡ or_next (first_in s len l) (first_in s len m)
  unfolding first_in
  first_join [] m = refl
  first_join (x ∷ l) m = by-case (fault_in s len x) (first_in s len (l ++ m)) (first_in s len l) (first_join l m)
    where
      by-case : (b : Bool) (p q : Option Fault) → p ≡ or_next q (first_in s len m) → cond b (Some x) p ≡ or_next (cond b (Some x) q) (first_in s len m)
      by-case true p q e = refl
      by-case false p q e = e

  -- one fault
  pub first_one : (x : Fault) → bad_if (fault_in s len x) x ≡ first_in s len (x ∷ [])
  unfolding first_in
  first_one x = refl

  module _ (f : ℕ → List Fault) where
    pub each_zero : first_in s len (each f 0) ≡ None
    unfolding each first_in
    each_zero = refl

    step : (n : ℕ) → first_in s len (each f (suc n)) ≡ or_next (first_in s len (each f n)) (first_in s len (f n))
    unfolding each
    step n = first_join (each f n) (f n)

    -- one list more, as a loop takes it
    pub each_more : (i : ℕ) → first_in s len (each f i) ≡ None → first_in s len (f i) ≡ None → first_in s len (each f (i + 1)) ≡ None
    each_more i h q = rw add-one (step i ∙ rw (h, q))

    pub each_hit : (n i : ℕ) {x : Fault} → i < n → first_in s len (each f i) ≡ None → first_in s len (f i) ≡ Some x → first_in s len (each f n) ≡ Some x
    each_hit zero i l h q = absurd (not-suc-le-zero l)
    each_hit (suc n) i l h q =
        step n
        ∙ ⊎_elim
        (λ (e : i ≡ n). rw (← e, h, q))
        (λ (b : i < n). rw (each_hit n i b h q))
        (eq-or-lt_of_le (le_of_suc-le-suc l))

    -- no fault in all, and in each
    pub each_none : (n : ℕ) → ((i : ℕ) → i < n → first_in s len (f i) ≡ None) → first_in s len (each f n) ≡ None
    each_none zero h = each_zero
    each_none (suc n) h = step n ∙ rw (each_none n (λ i l. h i (le_step l)), h n (le_refl (suc n)))

    pub each_all : (n : ℕ) → first_in s len (each f n) ≡ None → (i : ℕ) → i < n → first_in s len (f i) ≡ None
    each_all zero e i l = absurd (not-suc-le-zero l)
    each_all (suc n) e i l =
        ⊎_elim
        (λ (q : i ≡ n). rw q (next-sound (first_in s len (each f n)) (first_in s len (f n)) (sym (step n) ∙ e)))
        (λ (b : i < n). each_all n (here-sound (first_in s len (each f n)) (first_in s len (f n)) (sym (step n) ∙ e)) i b)
        (eq-or-lt_of_le (le_of_suc-le-suc l))
      where
        here-sound : (p q : Option Fault) → or_next p q ≡ None → p ≡ None
        here-sound None q h = refl
        here-sound (Some x) q h = h

        next-sound : (p q : Option Fault) → or_next p q ≡ None → q ≡ None
        next-sound None q h = h
        next-sound (Some x) q h = let z : ◌≡◌ {A = ℕ} 0 1 = cc in absurd (omega arith)

-- ---- one condition of one entry

module _ (s : Settings) (len n k : ℕ) where
  -- the first other entry that shares a sector
  one_shared : (j : ℕ) {b : Bool} → shares_with s.table k j ≡ b → first_in s len (Shares k j ∷ []) ≡ bad_if b (Shares k j)
  one_shared j h = sym (first_one s len (Shares k j)) ∙ ap (λ (b : Bool). bad_if b (Shares k j)) h

  pub first_sharing : first_in s len (sharing n k) ≡ first_shared s.table n k
  unfolding sharing first_shared
  first_sharing =
      let P = shares_with s.table k in
      let f : ℕ → List Fault = λ (j : ℕ). Shares k j ∷ [] in
      split (any n P)
      (λ h.
      let l = least_below P n h in
      rw h
      (each_hit s len f n (least n P) l.0
      (each_none s len f (least n P) (λ i b. one_shared i (any_all P (least n P) l.2 i b)))
      (one_shared (least n P) l.1)))
      (λ h. rw h (each_none s len f n (λ i b. one_shared i (any_all P n h i b))))

  module _ {x : Option Fault} (rule : ℕ) where
    pub condition_0 : rule ≡ 0 → x ≡ bad_if (no_sectors (entry_at s.table k)) (NoSectors k) → x ≡ first_in s len (condition_at n rule k)
    unfolding condition_at first_in
    condition_0 h e = rw h e

    pub condition_1 : rule ≡ 1 → x ≡ bad_if (runs_past len (entry_at s.table k)) (PastFlash k) → x ≡ first_in s len (condition_at n rule k)
    unfolding condition_at first_in
    condition_1 h e = rw h e

    pub condition_2 : rule ≡ 2 → x ≡ first_shared s.table n k → x ≡ first_in s len (condition_at n rule k)
    unfolding condition_at
    condition_2 h e = rw h (e ∙ sym first_sharing)

    pub condition_3 : rule ≡ 3 → x ≡ bad_if (links_up s.table k) (LinksUp k) → x ≡ first_in s len (condition_at n rule k)
    unfolding condition_at first_in
    condition_3 h e = rw h e

    pub condition_4 : rule ≡ 4 → x ≡ bad_if (links_to_b s.table k) (LinksToB k) → x ≡ first_in s len (condition_at n rule k)
    unfolding condition_at first_in
    condition_4 h e = rw h e

    pub condition_5 : rule ≡ 5 → x ≡ bad_if (many_users (entry_at s.table k)) (ManyUsers k) → x ≡ first_in s len (condition_at n rule k)
    unfolding condition_at first_in
    condition_5 h e = rw h e

    pub condition_6 : rule ≢ 0 → rule ≢ 1 → rule ≢ 2 → rule ≢ 3 → rule ≢ 4 → rule ≢ 5 → x ≡ bad_if (reserved_user (entry_at s.table k)) (ReservedUser k) → x ≡ first_in s len (condition_at n rule k)
    unfolding condition_at first_in
    condition_6 a b c d f g e =
        rw (ne_eqb rule 0 a, ne_eqb rule 1 b, ne_eqb rule 2 c, ne_eqb rule 3 d, ne_eqb rule 4 f, ne_eqb rule 5 g) e

-- ---- the settings

module _ (s : Settings) (len : ℕ) where
  pub first_off : enabled s s.current ≡ false → first_fault s len ≡ Some ArchOff
  unfolding first_fault faults_of first_in
  first_off h = rw h

  pub first_over_lem : enabled s s.current ≡ true → 16 < s.count → first_fault s len ≡ Some CountOver
  unfolding first_fault faults_of first_in
  first_over_lem h l = rw (h, lt-ltb 16 s.count l)

  pub first_entries : enabled s s.current ≡ true → s.count ≤ 16 → first_fault s len ≡ first_in s len (each (condition_for s.count) 7)
  unfolding first_fault faults_of first_in
  first_entries h l = rw (h, le-ltb 16 s.count l)
