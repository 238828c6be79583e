-- Where lines end, and the lines from an index on. Assumes nothing.
use Prim.Native.Nat.{ℕ, suc, ◌+◌, ◌-◌, ◌≤◌, ◌<◌}
use mathlib.Core.Path.{◌≡◌, refl, sym, ap, ◌∙◌}
use mathlib.Core.Logic.{◌≢◌}
use mathlib.Core.List.{List, [], ◌∷◌}
use native.Mathlib.Omega.{arith}
use lib.Dec.{eqb, ltb}
use lib.ListN.{length, get_or, take, drop, length-drop, drop_of_length-le}
use lib.Seq.{drop-drop, drop-cons}
use borrow.Author.Tests.{lt-ltb, eq-eqb, ne_eqb, ltb-true, eqb-true}
use Rattle.laws.proofs.Tests.{split}
use Rattle.ihex_file.specs.Lines.{glue, lines_of, line_len, end_of}

-- ---- the first line

pub len_some : (s : List ℕ) → 1 ≤ length s → 1 ≤ line_len s
unfolding line_len
len_some [] h = absurd (omega arith)
len_some (c ∷ cs) h = split (eqb c 10) (λ y. rw y (omega arith)) (λ n. rw n (omega arith))

pub len_most : (s : List ℕ) → line_len s ≤ length s
unfolding line_len
len_most [] = omega arith
len_most (c ∷ cs) =
    let h : line_len cs ≤ length cs = len_most cs in
    split (eqb c 10) (λ y. rw y (omega arith)) (λ n. rw n (omega arith))

lines_step : (c : ℕ) (cs : List ℕ) → glue c (lines_of cs) ≡ (c ∷ take (line_len cs) cs) ∷ lines_of (drop (line_len cs) cs)
    → lines_of (c ∷ cs) ≡ take (line_len (c ∷ cs)) (c ∷ cs) ∷ lines_of (drop (line_len (c ∷ cs)) (c ∷ cs))
unfolding lines_of line_len
lines_step c cs h =
    split (eqb c 10)
    (λ y. rw y (ap (λ (x : ℕ). (x ∷ []) ∷ lines_of cs) (sym (eqb-true c 10 y))))
    (λ n. rw n h)

pub lines_first : (s : List ℕ) → 1 ≤ length s → lines_of s ≡ take (line_len s) s ∷ lines_of (drop (line_len s) s)
unfolding lines_of line_len
lines_first [] h = absurd (omega arith)
lines_first (c ∷ []) h = lines_step c [] refl
lines_first (c ∷ d ∷ s) h = lines_step c (d ∷ s) (ap (glue c) (lines_first (d ∷ s) (omega arith)))

-- ---- the line at an index

pub end_some : (s : List ℕ) (i : ℕ) → i < length s → i < end_of s i
unfolding end_of
end_some s i h = rw (lt-ltb i (length s) h) (omega (arith, len_some (drop i s) (omega (arith, length-drop i s))))

pub end_most : (s : List ℕ) (i : ℕ) → end_of s i ≤ length s
unfolding end_of
end_most s i =
    split (ltb i (length s))
    (λ y. rw y (omega (arith, len_most (drop i s), length-drop i s, ltb-true i (length s) y)))
    (λ n. rw n (omega arith))

pub lines_at : (s : List ℕ) (i : ℕ) → i < length s → lines_of (drop i s) ≡ take (end_of s i - i) (drop i s) ∷ lines_of (drop (end_of s i) s)
unfolding end_of
lines_at s i h =
    let n = line_len (drop i s) in
    let e : i + n - i ≡ n = omega arith in
    rw (lt-ltb i (length s) h)
    (lines_first (drop i s) (omega (arith, length-drop i s))
    ∙ ap (λ (l : List ℕ). take n (drop i s) ∷ lines_of l) (drop-drop n i s)
    ∙ ap (λ (k : ℕ). take k (drop i s) ∷ lines_of (drop (i + n) s)) (sym e))

-- ---- as the code finds it: one character more, until an LF

module _ (s : List ℕ) (i : ℕ) where
  pub len_on : i < length s → get_or s i 0 ≢ 10 → line_len (drop i s) ≡ suc (line_len (drop (i + 1) s))
  unfolding line_len
  len_on l e = rw (drop-cons s i 0 l, ne_eqb (get_or s i 0) 10 e, suc_is) refl
    where
      suc_is : i + 1 ≡ suc i
      suc_is = omega arith

  len_lf : i < length s → get_or s i 0 ≡ 10 → line_len (drop i s) ≡ 1
  unfolding line_len
  len_lf l e = rw (drop-cons s i 0 l, eq-eqb (get_or s i 0) 10 e) refl

  len_none : length s ≤ i → line_len (drop i s) ≡ 0
  unfolding line_len
  len_none l = rw (drop_of_length-le s l) refl

-- the line that begins at an index goes on at i
module _ (s : List ℕ) (at i : ℕ) (same : at + line_len (drop at s) ≡ i + line_len (drop i s)) where
  pub ends_lf : at ≤ i → i < length s → get_or s i 0 ≡ 10 → i + 1 ≡ end_of s at
  unfolding end_of
  ends_lf l h e = rw (lt-ltb at (length s) (omega arith)) (omega (arith, same, len_lf s i h e))

  pub ends_text : length s ≤ i → (at ≤ length s → i ≤ length s) → length s ≡ end_of s at
  unfolding end_of
  ends_text h l =
      split (ltb at (length s))
      (λ y. rw y (omega (arith, same, l, len_none s i h, ltb-true at (length s) y)))
      (λ n. rw n refl)
