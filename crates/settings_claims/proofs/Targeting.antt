-- The place of a family by fields. Assumes nothing.
use Prim.Native.Nat.{ℕ, zero, suc, ◌*◌, ◌<◌, ◌≤◌}
use mathlib.Core.Path.{◌≡◌, refl, sym, ◌∙◌}
use mathlib.Core.Logic.{◌≢◌, ◌⊎◌, inl, inr, ⊎_elim}
use mathlib.Core.Bool.{Bool, true, false, ◌&&◌, not, or-true}
use mathlib.Core.List.{List}
use native.Mathlib.Omega.{arith}
use lib.Dec.{ltb, eqb}
use lib.ListN.{get_or}
use borrow.Author.Tests.{eqb-true, eqb-false, eq-eqb, lt-ltb, ltb-true, not-true}
use Rattle.std.specs.Prelude.{Some, None}
use Rattle.laws.specs.Sets.{any}
use Rattle.laws.proofs.Tests.{split, clash, is_false, and_left, and_right}
use Rattle.laws.proofs.Laws.{any_hit, any_found}
use Rattle.partitions.specs.declared.Settings.{Settings}
use Rattle.partitions.specs.declared.Entry.{Entry}
use Rattle.partitions.specs.declared.Arch.{Arch}
use Rattle.partitions.specs.declared.Arch.TheVariants.{Arm, RiscV}
use Rattle.partitions.specs.declared.Link.{Link}
use Rattle.partitions.specs.declared.Link.TheVariants.{Unlinked, OwnedBy, BOf}
use Rattle.partitions.specs.Settings.{link_is_b, link_is_none, is_a, user_is, has_user, accepts, entry_at}
use Rattle.partitions.proofs.Laws.{good_count}
use Rattle.placement.specs.declared.passes.PassQuery.{PassQuery}
use Rattle.placement.specs.Place.{first_of, entry_if, in_pass, chosen, chosen_entry, pass_query_of, pass_allows, pass_takes, used_count, gets_whole, whole_if, place_of_choice, place_of, Choice, place_from}
use Rattle.placement.proofs.First.{first_all, first_none, first_hit, if_taken, if_passed}
use Rattle.placement.proofs.Laws.{place_absolute, place_rp2040, place_whole, place_table, used_least, used_whole, start_is, len_is}
use Rattle.placement.specs.Place as place
use Rattle.placement.proofs.Theorems.{no_place}
use native.Mathlib.Nat.{le_refl, le_step}
use Rattle.settings_claims.specs.Targeting.{row, Accepts, data_flag, arm_s_flag, riscv_flag, arm_ns_flag, user_slot, Accepting, NoPlaceByFields, Asks, pass_1_arm, pass_1_riscv, pass_2_riscv, pass_2_arm, pass_3, pass_4, Takes, First, HasPlace, absolute, whole_data, whole_arm_s, whole_riscv, entry, PlaceByFields}

-- ---- one entry: each test of the code, and its words

-- an A partition
link_a : (l : Link) → ((j : ℕ) → l ≢ BOf j) → not (link_is_b l) ≡ true
link_a Unlinked h = refl
link_a (OwnedBy k) h = refl
link_a (BOf k) h = absurd (h k refl)

pub a_link : (l : Link) → not (link_is_b l) ≡ true → (j : ℕ) → l ≢ BOf j
a_link Unlinked h j e = let z : ◌≡◌ {A = ℕ} 0 1 = cc in absurd (omega arith)
a_link (OwnedBy k) h j e = let z : ◌≡◌ {A = ℕ} 0 1 = cc in absurd (omega arith)
a_link (BOf k) h j e = clash false h refl

-- a test of a family and a flag
flag_on : (f n : ℕ) {b : Bool} → f ≡ n → b ≡ true → eqb f n && b ≡ true
flag_on f n e h = rw (eq-eqb f n e, h)

flag_said : (f n : ℕ) (b : Bool) → eqb f n && b ≡ true → (f ≡ n) × (b ≡ true)
flag_said f n b h = (eqb-true f n (and_left (eqb f n) b h), and_right (eqb f n) b h)

module _ (e : Entry) (f : ℕ) where
  pub accepts_said : Accepts e f → accepts e f ≡ true
  unfolding accepts has_user
  accepts_said (data_flag q h) = simp (flag_on f 0xe48bff58 q h)
  accepts_said (arm_s_flag q h) = simp (flag_on f 0xe48bff59 q h, or-true)
  accepts_said (riscv_flag q h) = simp (flag_on f 0xe48bff5a q h, or-true)
  accepts_said (arm_ns_flag q h) = simp (flag_on f 0xe48bff5b q h, or-true)
  accepts_said (user_slot i l m h) =
      let u : any 4 (user_is e f) ≡ true = any_hit (user_is e f) 4 i l (rw (lt-ltb i e.user_count m, eq-eqb (get_or e.users i 0) f h)) in
      simp (u, or-true)

  said_accepts : accepts e f ≡ true → Accepts e f
  unfolding accepts has_user
  said_accepts h =
      split (eqb f 0xe48bff58 && e.«data»)
      (λ t. let q = flag_said f 0xe48bff58 e.«data» t in data_flag q.0 q.1)
      (λ t1.
      split (eqb f 0xe48bff59 && e.arm_s)
      (λ t. let q = flag_said f 0xe48bff59 e.arm_s t in arm_s_flag q.0 q.1)
      (λ t2.
      split (eqb f 0xe48bff5a && e.riscv)
      (λ t. let q = flag_said f 0xe48bff5a e.riscv t in riscv_flag q.0 q.1)
      (λ t3.
      split (eqb f 0xe48bff5b && e.arm_ns)
      (λ t. let q = flag_said f 0xe48bff5b e.arm_ns t in arm_ns_flag q.0 q.1)
      (λ t4.
      let u : any 4 (user_is e f) ≡ true = rw (t1, t2, t3, t4) at h in
      let w = any_found (user_is e f) 4 u in
      let m = and_left (ltb w.0 e.user_count) (eqb (get_or e.users w.0 0) f) w.2 in
      let g = and_right (ltb w.0 e.user_count) (eqb (get_or e.users w.0 0) f) w.2 in
      user_slot w.0 w.1 (ltb-true w.0 e.user_count m) (eqb-true (get_or e.users w.0 0) f g)))))

-- ---- an accepting entry

module _ (s : Settings) (f k : ℕ) where
  accepting_said : Accepting s f k → place.Accepting s f k
  accepting_said x = (x.used, link_a (row s k).link x.a, accepts_said (row s k) f x.accepts)

  said_accepting : place.Accepting s f k → Accepting s f k
  said_accepting x = record { used = x.0; a = a_link (row s k).link x.1; accepts = said_accepts (row s k) f x.2 }

pub no_place_by_fields : NoPlaceByFields
unfolding NoPlaceByFields
no_place_by_fields s len f good table na nr =
    let h = no_place s len f good table na nr in (
      λ e k x. h.0 e k (accepting_said s f k x),
      λ n. h.1 (λ k x. n k (said_accepting s f k x)),
    )

-- ---- what a pass asks

none_link : (l : Link) → l ≡ Unlinked → link_is_none l ≡ true
none_link l h = rw h

link_none : (l : Link) → link_is_none l ≡ true → l ≡ Unlinked
link_none Unlinked h = refl
link_none (OwnedBy k) h = clash false h refl
link_none (BOf k) h = clash false h refl

by_arch : {A : Type 0} (a : Arch) → (a ≡ Arm → A) → (a ≡ RiscV → A) → A
by_arch Arm f g = f refl
by_arch RiscV f g = g refl

module _ (s : Settings) (f : ℕ) (e : Entry) where
  asks_said : (p : ℕ) → Asks s f e p → (q : ℕ) × (p ≡ suc q) × (q < 4) × (pass_allows (pass_query_of s f) q e ≡ true)
  unfolding pass_allows pass_query_of
  asks_said p (pass_1_arm c q u b) = (0, refl, omega arith, rw (c, eq-eqb f 0xe48bff59 q, none_link e.link u, b))
  asks_said p (pass_1_riscv c q u b) = (0, refl, omega arith, rw (c, eq-eqb f 0xe48bff5a q, none_link e.link u, b))
  asks_said p (pass_2_riscv c o r q u b) = (1, refl, omega arith, rw (c, o, r, eq-eqb f 0xe48bff5a q, none_link e.link u, b))
  asks_said p (pass_2_arm c o r q u b) = (1, refl, omega arith, rw (c, o, r, eq-eqb f 0xe48bff59 q, none_link e.link u, b))
  asks_said p (pass_3 u) = (2, refl, omega arith, rw (none_link e.link u))
  asks_said p pass_4 = (3, refl, omega arith, refl)

  said_asks : (q : ℕ) → q < 4 → pass_allows (pass_query_of s f) q e ≡ true → Asks s f e (suc q)
  unfolding pass_allows pass_query_of
  said_asks zero l h =
      by_arch s.current
      (λ c.
      let h1 : eqb f 0xe48bff59 && (link_is_none e.link && not e.not_bootable_arm) ≡ true = rw c at h in
      let g = and_right (eqb f 0xe48bff59) _ h1 in
      pass_1_arm c (eqb-true f _ (and_left (eqb f 0xe48bff59) _ h1)) (link_none _ (and_left (link_is_none e.link) _ g)) (not-true _ (and_right (link_is_none e.link) _ g)))
      (λ c.
      let h1 : eqb f 0xe48bff5a && (link_is_none e.link && not e.not_bootable_riscv) ≡ true = rw c at h in
      let g = and_right (eqb f 0xe48bff5a) _ h1 in
      pass_1_riscv c (eqb-true f _ (and_left (eqb f 0xe48bff5a) _ h1)) (link_none _ (and_left (link_is_none e.link) _ g)) (not-true _ (and_right (link_is_none e.link) _ g)))
  said_asks (suc zero) l h =
      by_arch s.current
      (λ c.
      let h1 : (s.auto_switch && s.riscv && eqb f 0xe48bff5a) && (link_is_none e.link && not e.not_bootable_riscv) ≡ true = rw c at h in
      let w = and_left (s.auto_switch && s.riscv && eqb f 0xe48bff5a) _ h1 in
      let v = and_left (s.auto_switch && s.riscv) _ w in
      let g = and_right (s.auto_switch && s.riscv && eqb f 0xe48bff5a) _ h1 in
      pass_2_riscv c (and_left s.auto_switch _ v) (and_right s.auto_switch _ v) (eqb-true f _ (and_right (s.auto_switch && s.riscv) _ w)) (link_none _ (and_left (link_is_none e.link) _ g)) (not-true _ (and_right (link_is_none e.link) _ g)))
      (λ c.
      let h1 : (s.auto_switch && s.arm && eqb f 0xe48bff59) && (link_is_none e.link && not e.not_bootable_arm) ≡ true = rw c at h in
      let w = and_left (s.auto_switch && s.arm && eqb f 0xe48bff59) _ h1 in
      let v = and_left (s.auto_switch && s.arm) _ w in
      let g = and_right (s.auto_switch && s.arm && eqb f 0xe48bff59) _ h1 in
      pass_2_arm c (and_left s.auto_switch _ v) (and_right s.auto_switch _ v) (eqb-true f _ (and_right (s.auto_switch && s.arm) _ w)) (link_none _ (and_left (link_is_none e.link) _ g)) (not-true _ (and_right (link_is_none e.link) _ g)))
  said_asks (suc (suc zero)) l h = pass_3 (link_none _ h)
  said_asks (suc (suc (suc zero))) l h = pass_4
  said_asks (suc (suc (suc (suc q)))) l h = absurd (omega arith)

-- ---- what a pass takes

module _ (s : Settings) (f : ℕ) where
  pub takes_said : (p k : ℕ) → Takes s f p k → (q : ℕ) × (p ≡ suc q) × (q < 4) × (pass_takes (pass_query_of s f) q (entry_at s.table k) ≡ true)
  unfolding pass_takes pass_query_of
  takes_said p k x =
      let y = accepting_said s f k x.accepting in
      let z = asks_said s f (row s k) p x.asks in
      (z.0, z.1, z.2, rw (y.1, y.2) z.3)

  pub said_takes : (q k : ℕ) → q < 4 → k < s.count → pass_takes (pass_query_of s f) q (entry_at s.table k) ≡ true → Takes s f (suc q) k
  unfolding pass_takes pass_query_of
  said_takes q k l b h =
      let e = entry_at s.table k in
      let t = and_left (is_a e && accepts e f) (pass_allows (pass_query_of s f) q e) h in
      record {
        accepting = said_accepting s f k (b, and_left (is_a e) (accepts e f) t, and_right (is_a e) (accepts e f) t);
        asks = said_asks s f e q l (and_right (is_a e && accepts e f) (pass_allows (pass_query_of s f) q e) h);
      }

-- ---- the first match

module _ (g : ℕ → Choice) where
  first_least : (n : ℕ) {k : ℕ} → first_of g n ≡ Some k → (i : ℕ) × (i < n) × (g i ≡ Some k) × ((j : ℕ) → j < i → g j ≡ None)
  unfolding first_of
  first_least zero e = let z : ◌≡◌ {A = ℕ} 0 1 = cc in absurd (omega arith)
  first_least (suc n) {k} e = go (first_of g n) refl (λ h. first_least n h)
    where
      go : (c : Choice) → first_of g n ≡ c → (first_of g n ≡ Some k → (i : ℕ) × (i < n) × (g i ≡ Some k) × ((j : ℕ) → j < i → g j ≡ None))
          → (i : ℕ) × (i < suc n) × (g i ≡ Some k) × ((j : ℕ) → j < i → g j ≡ None)
      go None h r = (n, le_refl (suc n), rw h at e, first_all g n h)
      go (Some j) h r = let q = r (h ∙ rw h at e) in (q.0, le_step q.1, q.2, q.3)

module _ (table : List Entry) (w : PassQuery) (q i : ℕ) where
  if_entry : (k : ℕ) → entry_if table w q i ≡ Some k → (i ≡ k) × (pass_takes w q (entry_at table i) ≡ true)
  unfolding entry_if
  if_entry k h =
      split (pass_takes w q (entry_at table i))
      (λ t. let e : Some i ≡ Some k = rw t at h in (cc, t))
      (λ t. let e : None ≡ Some k = rw t at h in let z : ◌≡◌ {A = ℕ} 0 1 = cc in absurd (omega arith))

  if_nothing : entry_if table w q i ≡ None → pass_takes w q (entry_at table i) ≡ false
  unfolding entry_if
  if_nothing h =
      split (pass_takes w q (entry_at table i))
      (λ t. let e : Some i ≡ None = rw t at h in let z : ◌≡◌ {A = ℕ} 0 1 = cc in absurd (omega arith))
      (λ t. t)

module _ (s : Settings) (f : ℕ) (most : s.count ≤ 16) where
  n : ℕ
  n = used_count s.count

  below : (k : ℕ) → k < s.count → k < used_count s.count
  below k l = omega (arith, used_whole s.count most)

  used : (k : ℕ) → k < used_count s.count → k < s.count
  used k l = omega (arith, used_least s.count)

  -- what the passes choose is the first match
  chosen_first : (k : ℕ) → chosen_entry s f ≡ Some k → (p : ℕ) × First s f p k
  unfolding chosen_entry chosen in_pass
  chosen_first k h =
      let w = pass_query_of s f in
      let m = used_count s.count in
      let x = first_least _ 4 h in
      let y = first_least _ m x.2 in
      let z = if_entry s.table w x.0 y.0 k y.2 in
      let e = z.0 in
      let l : k < m = rw e at y.1 in (
        suc x.0,
        record {
          taken = said_takes s f x.0 k x.1 (used k l) (rw e at z.1);
          earlier = λ q j b t.
              let u = takes_said s f q j t in
              let none = first_all _ m (x.3 u.0 (omega (arith, u.1))) j (below j t.accepting.used) in
              clash (pass_takes w u.0 (entry_at s.table j)) u.3 (if_nothing s.table w u.0 j none);
          before = λ j b t.
              let u = takes_said s f (suc x.0) j t in
              let same : u.0 ≡ x.0 = omega (arith, u.1) in
              let none = y.3 j (omega (arith, e)) in
              clash (pass_takes w x.0 (entry_at s.table j)) (rw same at u.3) (if_nothing s.table w x.0 j none);
        },
      )

  -- and the first match is chosen
  first_chosen : (p k : ℕ) → First s f p k → chosen_entry s f ≡ Some k
  unfolding chosen_entry chosen in_pass
  first_chosen p k m =
      let w = pass_query_of s f in
      let c = used_count s.count in
      let u = takes_said s f p k m.taken in
      first_hit _ 4 u.0 u.2
      (first_none _ u.0
      (λ q l.
      first_none _ c
      (λ j b.
      if_passed s.table w q j
      (is_false _ (λ t. m.earlier (suc q) j (omega (arith, u.1)) (said_takes s f q j (omega (arith, u.2)) (used j b) t))))))
      (first_hit _ c k (below k m.taken.accepting.used)
      (first_none _ k
      (λ j b.
      if_passed s.table w u.0 j
      (is_false _
      (λ t.
      let y = said_takes s f u.0 j u.2 (omega (arith, m.taken.accepting.used)) t in
      m.before j b (rw (← u.1) at y)))))
      (if_taken s.table w u.0 k u.3))

-- ---- the place

-- the families that get the whole flash where there is no table
pub gets_said : (s : Settings) (f : ℕ) → gets_whole s.arm s.riscv f ≡ true
    → (f ≡ 0xe48bff58) ⊎ (((f ≡ 0xe48bff59) × (s.arm ≡ true)) ⊎ ((f ≡ 0xe48bff5a) × (s.riscv ≡ true)))
gets_said s f h =
    split (eqb f 0xe48bff58)
    (λ t. inl (eqb-true f _ t))
    (λ t1.
    split (eqb f 0xe48bff59 && s.arm)
    (λ t. inr (inl (flag_said f 0xe48bff59 s.arm t)))
    (λ t2.
    let u : eqb f 0xe48bff5a && s.riscv ≡ true = rw (t1, t2) at h in
    inr (inr (flag_said f 0xe48bff5a s.riscv u))))

module _ (s : Settings) (len f : ℕ) where
  gets_data : s.count ≡ 0 → gets_whole s.arm s.riscv f ≡ true → HasPlace s len f 0 len
  gets_data z h =
      ⊎_elim
      (λ e. whole_data z e)
      (λ o. ⊎_elim (λ e. whole_arm_s z e.0 e.1) (λ e. whole_riscv z e.0 e.1) o)
      (gets_said s f h)

  whole_said : (b : Bool) {a n : ℕ} → whole_if b len ≡ Some (place_from a n) → (b ≡ true) × (0 ≡ a) × (len ≡ n)
  whole_said true h = (refl, start_is h, len_is h)
  whole_said false h = let z : ◌≡◌ {A = ℕ} 0 1 = cc in absurd (omega arith)

  choice_said : (c : Choice) {a n : ℕ} → place_of_choice s.table c ≡ Some (place_from a n) → (k : ℕ) × (c ≡ Some k) × ((row s k).first * 4096 ≡ a) × ((row s k).sectors * 4096 ≡ n)
  choice_said None h = let z : ◌≡◌ {A = ℕ} 0 1 = cc in absurd (omega arith)
  choice_said (Some k) h = (k, refl, start_is h, len_is h)

  place_at : {a n b m : ℕ} → HasPlace s len f a n → a ≡ b → n ≡ m → HasPlace s len f b m
  place_at h p q = rw (← p, ← q) h

  place_said : s.count ≤ 16 → {a n : ℕ} → place_of s len f ≡ Some (place_from a n) → HasPlace s len f a n
  place_said most {a} {n} h =
      split (eqb f 0xe48bff57)
      (λ t.
      let q = eqb-true f 0xe48bff57 t in
      let x = whole_said s.absolute (sym (place_absolute s len f q) ∙ h) in
      place_at (absolute q x.0) x.1 x.2)
      (λ t.
      let na = eqb-false f 0xe48bff57 t in
      split (eqb f 0xe48bff56)
      (λ r. let x : None ≡ Some (place_from a n) = sym (place_rp2040 s len f (eqb-true f 0xe48bff56 r)) ∙ h in let z : ◌≡◌ {A = ℕ} 0 1 = cc in absurd (omega arith))
      (λ r.
      let nr = eqb-false f 0xe48bff56 r in
      split (eqb s.count 0)
      (λ c.
      let z = eqb-true s.count 0 c in
      let x = whole_said (gets_whole s.arm s.riscv f) (sym (place_whole s len f na nr z) ∙ h) in
      place_at (gets_data z x.0) x.1 x.2)
      (λ c.
      let x = choice_said _ (sym (place_table s len f na nr (eqb-false s.count 0 c)) ∙ h) in
      let y = chosen_first s f most x.0 x.1 in
      place_at (entry y.0 x.0 na nr y.1) x.2 x.3)))

  others : (m : ℕ) → f ≡ m → m ≢ 0xe48bff57 → m ≢ 0xe48bff56 → (f ≢ 0xe48bff57) × (f ≢ 0xe48bff56)
  others m q a r = (λ e. a (sym q ∙ e), λ e. r (sym q ∙ e))

  said_place : s.count ≤ 16 → {a n : ℕ} → HasPlace s len f a n → place_of s len f ≡ Some (place_from a n)
  said_place most (absolute q h) = place_absolute s len f q ∙ rw h
  said_place most (whole_data z q) = let o = others 0xe48bff58 q (omega arith) (omega arith) in place_whole s len f o.0 o.1 z ∙ rw q
  said_place most (whole_arm_s z q h) = let o = others 0xe48bff59 q (omega arith) (omega arith) in place_whole s len f o.0 o.1 z ∙ rw (q, h)
  said_place most (whole_riscv z q h) = let o = others 0xe48bff5a q (omega arith) (omega arith) in place_whole s len f o.0 o.1 z ∙ rw (q, h)
  said_place most (entry p k na nr m) =
      place_table s len f na nr (omega (arith, m.taken.accepting.used)) ∙ rw (first_chosen s f most p k m)

pub place_by_fields : PlaceByFields
unfolding PlaceByFields
place_by_fields s len f a n good = (place_said s len f (good_count s len good), said_place s len f (good_count s len good))
