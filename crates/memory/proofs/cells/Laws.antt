-- The laws of the maps: what they answer, and what they hold after a range is entered. Assumes nothing.
use Prim.Native.Nat.{ℕ, ◌+◌, ◌-◌, ◌*◌, ◌/◌, ◌%◌, ◌<◌, ◌≤◌}
use mathlib.Core.Path.{◌≡◌, refl, sym, ap, subst, ◌∙◌}
use mathlib.Core.Logic.{◌≢◌, ◌⊎◌, ⊎_elim}
use mathlib.Core.Bool.{Bool, true, false, cond, ◌&&◌, ◌||◌}
use mathlib.Core.List.{List}
use native.Mathlib.Omega.{arith}
use lib.Dec.{eqb, ltb}
use lib.ListN.{length, get_or, set, length-set, get_or-eq_default}
use lib.Seq.{get_or-set_same, get_or-set_other, set_out}
use borrow.Author.Tests.{eqb-true, eqb-false, eq-eqb, ne_eqb, ltb-true, ltb-false, lt-ltb}
use Rattle.laws.specs.Sets.{Set, none, add}
use Rattle.laws.proofs.Tests.{split, clash, is_false, eqb_same, and_left, and_right, both}
use Rattle.memory.specs.Bitmap.{marked_in, with_mark, unmarked}
use Rattle.memory.proofs.bitmap.Laws.{marked_same, marked_other, marked_unmarked}
use Rattle.memory.specs.Many.{many}
use Rattle.memory.specs.Cells.{left_in, touches_in, Kept}

-- two ranges of 256 bytes have one in common
abbrev pub Near : ℕ → ℕ → Type 0
Near a b = (a < b + 256) × (b < a + 256)

module _ (A : Set) (m d : List ℕ) (k : Kept A m d) where
  -- where the answer is yes, there is one
  pub touched : (at : ℕ) → touches_in m d at ≡ true → (a : ℕ) × (A a ≡ true) × Near a at
  unfolding touches_in left_in
  touched at e =
      split (marked_in m (at / 256))
      (λ y. let t = k.there (at / 256) y in (at / 256 * 256 + get_or d (at / 256) 0, t.1, (omega (arith, t.0), omega (arith, t.0))))
      (λ n.
      let e1 : left_in m d (at / 256) (at % 256) ≡ true = rw n at e in
      split (marked_in m (at / 256 + 1) && ltb (get_or d (at / 256 + 1) 0) (at % 256))
      (λ y.
      let t = k.there (at / 256 + 1) (and_left _ _ y) in
      let l : get_or d (at / 256 + 1) 0 < at % 256 = ltb-true _ _ (and_right (marked_in m (at / 256 + 1)) _ y) in
      ((at / 256 + 1) * 256 + get_or d (at / 256 + 1) 0, t.1, (omega (arith, t.0), omega (arith, t.0))))
      (λ n1.
      let e2 = rw n1 at e1 in
      split (eqb (at / 256) 0)
      (λ z. clash false (rw z at e2) refl)
      (λ z.
      let nz : at / 256 ≢ 0 = eqb-false _ _ z in
      let e3 = rw z at e2 in
      let t = k.there (at / 256 - 1) (and_left _ _ e3) in
      let l : at % 256 < get_or d (at / 256 - 1) 0 = ltb-true _ _ (and_right (marked_in m (at / 256 - 1)) _ e3) in
      ((at / 256 - 1) * 256 + get_or d (at / 256 - 1) 0, t.1, (omega (arith, t.0), omega (arith, t.0))))))

  -- and where there is one it is yes
  pub touches_near : (at a : ℕ) → A a ≡ true → Near a at → touches_in m d at ≡ true
  unfolding touches_in left_in
  touches_near at a y l =
      let t = k.all a y in
      split (marked_in m (at / 256))
      (λ q. rw q)
      (λ n.
      split (eqb (a / 256) (at / 256 + 1))
      (λ q.
      let e : a / 256 ≡ at / 256 + 1 = eqb-true _ _ q in
      let mk : marked_in m (at / 256 + 1) ≡ true = ap (marked_in m) (sym e) ∙ t.0 in
      let of : get_or d (at / 256 + 1) 0 ≡ a % 256 = ap (λ (c : ℕ). get_or d c 0) (sym e) ∙ t.1 in
      rw (n, mk, lt-ltb (get_or d (at / 256 + 1) 0) (at % 256) (omega (arith, of))))
      (λ z.
      let ne : a / 256 ≢ at / 256 + 1 = eqb-false _ _ z in
      let nh : a / 256 ≢ at / 256 = λ e. clash (marked_in m (at / 256)) (ap (marked_in m) (sym e) ∙ t.0) n in
      let e : a / 256 ≡ at / 256 - 1 = omega arith in
      let nz : at / 256 ≢ 0 = λ q. nh (omega arith) in
      let mk : marked_in m (at / 256 - 1) ≡ true = ap (marked_in m) (sym e) ∙ t.0 in
      let of : get_or d (at / 256 - 1) 0 ≡ a % 256 = ap (λ (c : ℕ). get_or d c 0) (sym e) ∙ t.1 in
      rw n
      (split (marked_in m (at / 256 + 1) && ltb (get_or d (at / 256 + 1) 0) (at % 256))
      (λ q. rw q)
      (λ q. rw (q, ne_eqb (at / 256) 0 nz, mk, lt-ltb (at % 256) (get_or d (at / 256 - 1) 0) (omega (arith, of)))))))

  -- one more range, in a cell in which none starts
  module _ (at : ℕ) (free : marked_in m (at / 256) ≡ false) (room : at / 256 / 8 < length m) (fits : (at / 256 < length d) ⊎ (at % 256 ≡ 0)) where
    offset-there : get_or (set d (at / 256) (at % 256)) (at / 256) 0 ≡ at % 256
    offset-there =
        split (ltb (at / 256) (length d))
        (λ y. get_or-set_same d (at / 256) (at % 256) 0 (ltb-true _ _ y))
        (λ z.
        let past : length d ≤ at / 256 = ltb-false _ _ z in
        let whole : at % 256 ≡ 0 = ⊎_elim (λ l. absurd (omega arith)) (λ e. e) fits in
        rw (set_out d (at / 256) (at % 256) past, get_or-eq_default d 0 past, whole))

    pub entered : Kept (add at A) (with_mark m (at / 256)) (set d (at / 256) (at % 256))
    entered =
        record {
          there = λ c y.
              split (eqb c (at / 256))
              (λ q.
              let e : c ≡ at / 256 = eqb-true _ _ q in
              let o : get_or (set d (at / 256) (at % 256)) c 0 ≡ at % 256 = ap (λ (x : ℕ). get_or (set d (at / 256) (at % 256)) x 0) e ∙ offset-there in
              let s : c * 256 + get_or (set d (at / 256) (at % 256)) c 0 ≡ at = omega (arith, o) in
              (omega (arith, o), rw (s, eqb_same at)))
              (λ z.
              let ne : c ≢ at / 256 = eqb-false _ _ z in
              let o : get_or (set d (at / 256) (at % 256)) c 0 ≡ get_or d c 0 = get_or-set_other d (at / 256) c (at % 256) 0 ne in
              let t = k.there c (sym (marked_other m (at / 256) c ne) ∙ y) in
              (omega (arith, o, t.0), rw (o, t.1) (or-true (eqb (c * 256 + get_or d c 0) at))));
          all = λ a y.
              split (eqb a at)
              (λ q.
              let e : a ≡ at = eqb-true _ _ q in
              rw e (marked_same m (at / 256) room, offset-there))
              (λ z.
              let ya : A a ≡ true = rw z at y in
              let t = k.all a ya in
              let ne : a / 256 ≢ at / 256 = λ e. clash (marked_in m (at / 256)) (ap (marked_in m) (sym e) ∙ t.0) free in
              (marked_other m (at / 256) (a / 256) ne ∙ t.0, get_or-set_other d (at / 256) (a / 256) (at % 256) 0 ne ∙ t.1));
        }
      where
        or-true : (a : Bool) → a || true ≡ true
        or-true true = refl
        or-true false = refl

-- cleared maps hold none
pub kept_none : (x y : ℕ) → Kept none (unmarked x) (many y 0)
kept_none x y = record { there = λ c e. clash (marked_in (unmarked x) c) e (marked_unmarked x c); all = λ a e. clash false e refl }

-- ---- as the code asks

pub touches_yes : (m d : List ℕ) (at : ℕ) {b : Bool} → b ≡ marked_in m (at / 256) → b ≡ true → true ≡ touches_in m d at
unfolding touches_in
touches_yes m d at e y = rw (sym e ∙ y)

pub touches_no : (m d : List ℕ) (at : ℕ) {b r : Bool} → b ≡ marked_in m (at / 256) → b ≡ false → r ≡ left_in m d (at / 256) (at % 256) → r ≡ touches_in m d at
unfolding touches_in
touches_no m d at e n l = l ∙ rw (sym e ∙ n)

module _ (m d : List ℕ) (c o : ℕ) {b : Bool} {x : ℕ} (e : b ≡ marked_in m (c + 1)) (f : x ≡ get_or d (c + 1) 0) where
  pub left_after : b && ltb x o ≡ true → true ≡ left_in m d c o
  unfolding left_in
  left_after y = rw ((λ i. sym e i && ltb (sym f i) o) ∙ y)

  pub left_zero : b && ltb x o ≡ false → c ≡ 0 → false ≡ left_in m d c o
  unfolding left_in
  left_zero n z = rw ((λ i. sym e i && ltb (sym f i) o) ∙ n, eq-eqb c 0 z)

  pub left_before : b && ltb x o ≡ false → c ≢ 0 → {b' : Bool} {x' : ℕ} → b' ≡ marked_in m (c - 1) → x' ≡ get_or d (c - 1) 0 → b' && ltb o x' ≡ left_in m d c o
  unfolding left_in
  left_before n z g h = rw ((λ i. sym e i && ltb (sym f i) o) ∙ n, ne_eqb c 0 z) (λ i. g i && ltb o (h i))
