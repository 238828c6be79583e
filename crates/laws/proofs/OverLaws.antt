-- The laws of a part of a list replaced: its length, each element of it, parts one after the other, and what a callee leaves in a part
-- that it was lent.
-- Assumes nothing.
use mathlib.Core.Path.{◌≡◌, refl, sym, ap, ◌∙◌, subst}
use mathlib.Core.List.{List, [], ◌∷◌, ◌++◌, append-nil, append_assoc}
use Prim.Native.Nat.{ℕ, ◌+◌, ◌-◌, ◌<◌, ◌≤◌}
use native.Mathlib.Numerals.{add-one}
use native.Mathlib.Omega.{arith}
use lib.ListN.{length, get_or, take, drop, set, length-append, length-take, length-drop, get_or-append, drop_of_length-le}
use lib.Seq.{take-length, length-take-le, drop-drop, take_at, drop_at, set_split, get_or-take, get_or-drop, get_or-append-add}
use borrow.Rule.Slice.PartMut.{put_mid}
use Rattle.laws.specs.Over.{over}

module _ (d : List ℕ) (at : ℕ) (s : List ℕ) (fits : at + length s ≤ length d) where
  pub length_over : length (over d at s) ≡ length d
  unfolding over
  length_over = simp (length-append, length-take, length-drop) (omega arith)

  pub over_inside : (j : ℕ) → at ≤ j → j < at + length s → get_or (over d at s) j 0 ≡ get_or s (j - at) 0
  unfolding over
  over_inside j h l =
      let e : at + (j - at) ≡ j = omega arith in
      subst (λ (k : ℕ). get_or (take at d ++ (s ++ drop (at + length s) d)) k 0 ≡ get_or s (j - at) 0) e
      (subst (λ (n : ℕ). get_or (take at d ++ (s ++ drop (at + length s) d)) (n + (j - at)) 0 ≡ get_or s (j - at) 0) (length-take-le at d (omega arith))
      (get_or-append-add (take at d) (s ++ drop (at + length s) d) (j - at) 0 ∙ get_or-append s (drop (at + length s) d) 0 (j - at) (omega arith)))

  pub over_before : (j : ℕ) → j < at → get_or (over d at s) j 0 ≡ get_or d j 0
  unfolding over
  over_before j l =
      get_or-append (take at d) _ 0 j (rw (length-take-le at d (omega arith)) l) ∙ get_or-take at d j 0 l

  pub over_after : (j : ℕ) → at + length s ≤ j → get_or (over d at s) j 0 ≡ get_or d j 0
  unfolding over
  over_after j l =
      let n = length s in
      let e : j ≡ at + (n + (j - (at + n))) = omega arith in
      let g : at + n + (j - (at + n)) ≡ j = omega arith in
      subst (λ (k : ℕ). get_or (take at d ++ (s ++ drop (at + n) d)) k 0 ≡ get_or d j 0) (sym e)
      (subst (λ (m : ℕ). get_or (take at d ++ (s ++ drop (at + n) d)) (m + (n + (j - (at + n)))) 0 ≡ get_or d j 0) (length-take-le at d (omega arith))
      (get_or-append-add (take at d) (s ++ drop (at + n) d) (n + (j - (at + n))) 0
      ∙ get_or-append-add s (drop (at + n) d) (j - (at + n)) 0
      ∙ get_or-drop (at + n) d (j - (at + n)) 0
      ∙ ap (λ (k : ℕ). get_or d k 0) g))

-- one element
pub set_over : (d : List ℕ) (i x : ℕ) → i < length d → set d i x ≡ over d i (x ∷ [])
unfolding over
set_over d i x l = rw (add-one i) (set_split d i x l)

-- a part that is replaced, and then the part right after it
pub over_next : (d : List ℕ) (at : ℕ) (s : List ℕ) (k : ℕ) (t : List ℕ) → at + length s ≡ k → k + length t ≤ length d → over (over d at s) k t ≡ over d at (s ++ t)
unfolding over
over_next d at s k t e l =
    let p = take at d ++ s in
    let q = drop (at + length s) d in
    let split : take at d ++ (s ++ q) ≡ p ++ q = sym (append_assoc (take at d) s q) in
    let size : length p ≡ k = length-append (take at d) s ∙ ap (λ (n : ℕ). n + length s) (length-take-le at d (omega arith)) ∙ e in
    let both : at + length s + length t ≡ at + length (s ++ t) = omega (arith, length-append s t) in
    let rest : drop (k + length t) (p ++ q) ≡ drop (at + length (s ++ t)) d =
    sym (drop-drop (length t) k (p ++ q))
    ∙ ap (drop (length t)) (drop_at p q k size)
    ∙ drop-drop (length t) (at + length s) d
    ∙ ap (λ (n : ℕ). drop n d) both in
    rw (split, take_at p q k size, rest) (simp append_assoc)

-- all of a list
pub over_whole : (d s : List ℕ) → length s ≡ length d → over d 0 s ≡ s
unfolding over
over_whole d s e =
    let past : length d ≤ 0 + length s = omega arith in
    rw (drop_of_length-le d past) (append-nil s)

-- what a callee left in a part that it was lent, said of the whole
pub put_over : (a n : ℕ) (xs ys : List ℕ) → length ys ≡ n → put_mid a (a + n - a) xs ys ≡ over xs a ys
unfolding over
put_over a n xs ys e =
    let h : a + n - a ≡ n = omega arith in
    rw (h, drop-drop n a xs, e) refl

-- a source p of n elements that a part of n was made
pub part_over : (a n : ℕ) (xs p ys : List ℕ) → length p ≡ n → a + n ≤ length xs → ys ≡ p → put_mid a (a + n - a) xs ys ≡ over xs a p
part_over a n xs p ys k l e = put_over a n xs ys (rw e k) ∙ rw e refl

-- a source p of n elements that was copied into a part of n
pub copied_over : (a n : ℕ) (xs p ys : List ℕ) → length p ≡ n → a + n ≤ length xs
    → ys ≡ take (length p) p ++ drop (length p) (take (a + n - a) (drop a xs)) → put_mid a (a + n - a) xs ys ≡ over xs a p
copied_over a n xs p ys k l e =
    let m : length (take (a + n - a) (drop a xs)) ≤ length p = simp (length-take, length-drop) (omega arith) in
    let y : ys ≡ p = e ∙ copied p (take (a + n - a) (drop a xs)) m in
    put_over a n xs ys (rw y k) ∙ rw y refl
  where
    copied : (s t : List ℕ) → length t ≤ length s → take (length s) s ++ drop (length s) t ≡ s
    copied s t l = rw (take-length s, drop_of_length-le t l) (append-nil s)
