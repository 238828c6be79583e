-- A family is shut out exactly where it has no place; the spot is the place's, and what it tells is true; the marks are true. Assumes nothing.
use Prim.Native.Nat.{ℕ}
use mathlib.Core.Path.{◌≡◌, refl, sym, ap, ◌∙◌}
use mathlib.Core.Logic.{◌≢◌, inl, inr}
use mathlib.Core.Bool.{Bool, true, false, not, ◌&&◌, ◌||◌}
use native.Mathlib.Omega.{arith}
use lib.Dec.{eqb}
use borrow.Author.Tests.{eqb-true, eqb-false, lt-ltb, not-true}
use Rattle.std.specs.Prelude.{Some, None}
use Rattle.laws.specs.Sets.{any}
use Rattle.laws.proofs.Tests.{split, clash, is_false, and_right}
use Rattle.laws.proofs.Laws.{any_all, least_below}
use Rattle.partitions.specs.declared.Settings.{Settings}
use Rattle.partitions.specs.Settings.{family_rp2040, family_absolute, family_data, family_arm_s, family_risc_v, entry_at, is_a, accepts}
use Rattle.placement.specs.Place.{pass_query_of, in_pass, chosen, used_count, chosen_entry, gets_whole, place_of, ram_family, place_from}
use Rattle.placement.proofs.First.{first_hit, first_none, if_taken, if_passed}
use Rattle.placement.proofs.Laws.{place_absolute, place_rp2040, place_whole, place_table}
use Rattle.std.specs.Prelude.{Result, Ok, Err}
use Rattle.why_place.specs.declared.Denial.{Denial}
use Rattle.why_place.specs.declared.Denial.TheVariants.{AbsoluteOff, ArmOff, RiscvOff, NoEntry, NotForRam}
use Rattle.why_place.specs.Parts.{denied_if, without_access}
use Rattle.why_place.specs.Placing.{no_table, takes_at, flash_denials, flash_access, mark_for, mark_of, taken_in, pass_has, pass_of, entry_in, table_spot, spot_of, spot_place, FirstMatch, Marked, GrantedIsPlaced, GrantedIsForRam, SpotIsPlaced, MarksAreTrue, PlaceIsTrue}
use Rattle.why_place.proofs.Laws.{flash_absolute, flash_rp2040, flash_whole, flash_table, ram_by, denial_true, taken_takes, takes_pass, granted_if, spot_refused, spot_absolute, spot_whole, spot_table, granted_other, granted_takes}

-- ---- the first match

module _ (s : Settings) (f : ℕ) where
  -- there is one where an A entry accepts the family
  match : any (used_count s.count) (takes_at s.table f) ≡ true → FirstMatch s f (pass_of s f) (entry_in s f (pass_of s f))
  unfolding pass_of entry_in pass_has
  match h =
      let n = used_count s.count in
      let p = least_below (pass_has s f) 4 (takes_pass s f h) in
      let k = least_below (taken_in s f (pass_of s f)) n p.1 in
      record {
        pass = p.0;
        used = k.0;
        earlier = λ q l j b. any_all (taken_in s f q) n (any_all (pass_has s f) (pass_of s f) p.2 q l) j b;
        before = any_all (taken_in s f (pass_of s f)) (entry_in s f (pass_of s f)) k.2;
        taken = k.1;
      }

  -- and it is the entry that the passes choose
  chosen_match : (p k : ℕ) → FirstMatch s f p k → chosen_entry s f ≡ Some k
  unfolding chosen_entry chosen in_pass taken_in
  chosen_match p k m =
      let w = pass_query_of s f in
      let n = used_count s.count in
      first_hit _ 4 p m.pass
      (first_none _ p (λ q l. first_none _ n (λ j b. if_passed s.table w q j (m.earlier q l j b))))
      (first_hit _ n k m.used (first_none _ k (λ j b. if_passed s.table w p j (m.before j b))) (if_taken s.table w p k m.taken))

  chosen_none : any (used_count s.count) (takes_at s.table f) ≡ false → chosen_entry s f ≡ None
  unfolding chosen_entry chosen in_pass taken_in
  chosen_none h =
      let n = used_count s.count in
      first_none _ 4
      (λ q l.
      first_none _ n
      (λ j b.
      if_passed s.table (pass_query_of s f) q j
      (is_false _ (λ t. clash (takes_at s.table f j) (taken_takes s f q j t) (any_all (takes_at s.table f) n h j b)))))

-- ---- the place of a spot

by_access : {A : Type 0} (a : Result (Unit {0}) Denial) → ((x : Denial) → a ≡ Err x → A) → (a ≡ Ok tt → A) → A
by_access (Ok u) d g = g refl
by_access (Err x) d g = d x refl

abbrev granted : Result (Unit {0}) Denial → Bool
granted (Ok u) = true
granted (Err x) = false

-- without a table
whole_gets : (arm riscv : Bool) (f : ℕ) → gets_whole arm riscv f ≡ granted (without_access arm riscv f)
unfolding without_access
whole_gets arm riscv f =
    split (eqb f family_data)
    (λ d. rw (eqb-true f family_data d))
    (λ d.
    split (eqb f family_arm_s)
    (λ a. rw (eqb-true f family_arm_s a) (on arm ArmOff))
    (λ a. split (eqb f family_risc_v) (λ r. rw (eqb-true f family_risc_v r) (last riscv)) (λ r. rw (d, a, r))))
  where
    on : (b : Bool) (x : Denial) → false || b || false ≡ granted (denied_if (not b) x)
    on true x = refl
    on false x = refl

    last : (b : Bool) → b ≡ granted (denied_if (not b) RiscvOff)
    last true = refl
    last false = refl

denied_none : (b : Bool) (y : Denial) {x : Denial} → denied_if (not b) y ≡ Err x → b ≡ false
denied_none true y h = let z : ◌≡◌ {A = ℕ} 0 1 = cc in absurd (omega arith)
denied_none false y h = refl

module _ (s : Settings) (len f : ℕ) where
  absolute_placed : f ≡ family_absolute → spot_place s len (spot_of s f) ≡ place_of s len f
  absolute_placed e =
      split s.absolute
      (λ b. let h : flash_access s f ≡ Ok tt = flash_absolute s f e ∙ rw b in rw (spot_absolute s f h e, place_absolute s len f e, b))
      (λ b. let h : flash_access s f ≡ Err AbsoluteOff = flash_absolute s f e ∙ rw b in rw (spot_refused s f h, place_absolute s len f e, b))

  rp2040_placed : f ≡ family_rp2040 → spot_place s len (spot_of s f) ≡ place_of s len f
  rp2040_placed e = rw (spot_refused s f (flash_rp2040 s f e), place_rp2040 s len f e)

  module _ (na : f ≢ family_absolute) (nr : f ≢ family_rp2040) where
    gets-whole : s.count ≡ 0 → gets_whole s.arm s.riscv f ≡ granted (flash_access s f)
    gets-whole z = whole_gets s.arm s.riscv f ∙ ap granted (sym (flash_whole s f na nr z))

    whole-placed : s.count ≡ 0 → spot_place s len (spot_of s f) ≡ place_of s len f
    whole-placed z =
        by_access (flash_access s f)
        (λ x h. let g = gets-whole z ∙ ap granted h in rw (spot_refused s f h, place_whole s len f na nr z, g))
        (λ h. let g = gets-whole z ∙ ap granted h in rw (spot_whole s f h na z, place_whole s len f na nr z, g))

    table-placed : s.count ≢ 0 → spot_place s len (spot_of s f) ≡ place_of s len f
    unfolding table_spot
    table-placed z =
        by_access (flash_access s f)
        (λ x h.
        let none = denied_none (any (used_count s.count) (takes_at s.table f)) NoEntry (sym (flash_table s f na nr z) ∙ h) in
        rw (spot_refused s f h, place_table s len f na nr z, chosen_none s f none))
        (λ h.
        let c = chosen_match s f (pass_of s f) (entry_in s f (pass_of s f)) (match s f (granted_takes s f h na z)) in
        rw (spot_table s f h na z, place_table s len f na nr z, c))

pub spot_is_placed : SpotIsPlaced
spot_is_placed s len f =
    split (eqb f family_absolute)
    (λ a. absolute_placed s len f (eqb-true f family_absolute a))
    (λ a.
    split (eqb f family_rp2040)
    (λ r. rp2040_placed s len f (eqb-true f family_rp2040 r))
    (λ r.
    let na = eqb-false f family_absolute a in
    let nr = eqb-false f family_rp2040 r in
    split (eqb s.count 0)
    (λ z. whole-placed s len f na nr (eqb-true s.count 0 z))
    (λ z. table-placed s len f na nr (eqb-false s.count 0 z))))

-- ---- shut out exactly where there is no place

module _ (s : Settings) (len f : ℕ) where
  somewhere : (a n : ℕ) → Some (place_from a n) ≢ None
  somewhere a n h = let z : ◌≡◌ {A = ℕ} 0 1 = cc in absurd (omega arith)

  granted_somewhere : flash_access s f ≡ Ok tt → spot_place s len (spot_of s f) ≢ None
  unfolding table_spot
  granted_somewhere h e =
      split (eqb f family_absolute)
      (λ a. let q = rw (spot_absolute s f h (eqb-true f family_absolute a)) at e in somewhere 0 len q)
      (λ a.
      let na = eqb-false f family_absolute a in
      split (eqb s.count 0)
      (λ z. let q = rw (spot_whole s f h na (eqb-true s.count 0 z)) at e in somewhere 0 len q)
      (λ z. let q = rw (spot_table s f h na (eqb-false s.count 0 z)) at e in somewhere _ _ q))

  granted_placed : flash_access s f ≡ Ok tt → place_of s len f ≢ None
  granted_placed h e = granted_somewhere h (spot_is_placed s len f ∙ e)

  placed_granted : place_of s len f ≢ None → flash_access s f ≡ Ok tt
  placed_granted n =
      by_access (flash_access s f)
      (λ x h. absurd (n (sym (spot_is_placed s len f) ∙ ap (spot_place s len) (spot_refused s f h))))
      (λ h. h)

pub granted_is_placed : GrantedIsPlaced
granted_is_placed s len f = (granted_placed s len f, placed_granted s len f)

pub granted_is_for_ram : GrantedIsForRam
granted_is_for_ram s f = (
  λ h. granted_if (ram_family s f) NotForRam (sym (ram_by s f) ∙ h),
  λ h. ram_by s f ∙ rw h,
)

-- ---- what a spot tells

pub place_is_true : PlaceIsTrue
unfolding table_spot
place_is_true s f =
    by_access (flash_access s f)
    (λ x h. rw (spot_refused s f h) h)
    (λ h.
    split (eqb f family_absolute)
    (λ a.
    let e = eqb-true f family_absolute a in
    rw (spot_absolute s f h e) (e, granted_if s.absolute AbsoluteOff (sym (flash_absolute s f e) ∙ h)))
    (λ a.
    let na = eqb-false f family_absolute a in
    split (eqb s.count 0)
    (λ z.
    let e = eqb-true s.count 0 z in
    rw (spot_whole s f h na e) (e, na, gets-whole s 0 f na (granted_other s f h na) e ∙ ap granted h))
    (λ z.
    let n = eqb-false s.count 0 z in
    rw (spot_table s f h na n) (pass_of s f, refl, match s f (granted_takes s f h na n)))))

-- ---- the marks

module _ (s : Settings) (f k : ℕ) where
  marked_entry : takes_at s.table f k ≡ false → Marked (entry_at s.table k) f (mark_for (entry_at s.table k) f)
  unfolding takes_at
  marked_entry h =
      let e = entry_at s.table k in
      split (is_a e)
      (λ a. let b : accepts e f ≡ false = rw a at h in inr (rw (a, b), a, b))
      (λ a. inl (rw a, a))

pub marks_are_true : MarksAreTrue
unfolding flash_access mark_of
marks_are_true s f h k l =
    let n = used_count s.count in
    let t = denial_true s f flash_denials h in
    let none = not-true _ (and_right (not (no_table s) && not (eqb f family_absolute)) (not (any n (takes_at s.table f))) t) in
    rw (lt-ltb k n l) (marked_entry s f k (any_all (takes_at s.table f) n none k l))
