-- A part put into a room, a text that grows at the start of a list, and `io`'s decimal digits as `decimal_of` has them. Assumes nothing.
use mathlib.Core.Path.{◌≡◌, refl, sym, ◌∙◌}
use mathlib.Core.Bool.{Bool, true, false, cond}
use mathlib.Core.List.{List, [], ◌∷◌, ◌++◌, append_assoc}
use Prim.Native.Nat.{ℕ, zero, suc, ◌+◌, ◌-◌, ◌/◌, ◌%◌, ◌^◌, ◌<◌, ◌≤◌}
use native.Mathlib.Nat.{pow-le-pow_right}
use native.Mathlib.Omega.{arith}
use lib.Dec.{ltb, leb}
use lib.ListN.{length, drop, length-append, length-take, length-drop}
use lib.Seq.{length-take-le, take_at, drop-drop, drop-append-add}
use borrow.Author.Tests.{lt-ltb, le-ltb, ltb-true, ltb-false, le-leb, lt-leb, leb-true}
use Rattle.laws.specs.Over.{over}
use Rattle.laws.proofs.Tests.{split}
use Rattle.laws.proofs.OverLaws.{length_over}
use Rattle.io.specs.Counts.{IsPrefixLen}
use Rattle.io.specs.Digits.{hex_digit_ascii, last_digits, IsDigitCount}
use Rattle.text.specs.Parts.{end_of, put_part, digit, decimal_by, decimal_of, pair_text}

-- ---- a part put at an index

module _ (out : List ℕ) (at : ℕ) (p : List ℕ) where
  pub no_room : length out < at + length p → (at ≡ end_of out at p) × (out ≡ put_part out at p)
  unfolding end_of put_part
  no_room l = rw (lt-leb (at + length p) (length out) l) (refl, refl)

  pub has_room : at + length p ≤ length out → (at + length p ≡ end_of out at p) × (over out at p ≡ put_part out at p)
  unfolding end_of put_part
  has_room l = rw (le-leb (at + length p) (length out) l) (refl, refl)

  pub put_fits : {zs : List ℕ} {e : ℕ} → at + length p ≤ length out → (e ≡ end_of out at p) × (zs ≡ put_part out at p) → (e ≡ at + length p) × (zs ≡ over out at p)
  put_fits l h = let f = has_room l in (h.0 ∙ sym f.0, h.1 ∙ sym f.1)

  pub length_put : length (put_part out at p) ≡ length out
  unfolding put_part
  length_put =
      split (leb (at + length p) (length out))
      (λ y. rw y (length_over out at p (leb-true (at + length p) (length out) y)))
      (λ n. rw n refl)

-- ---- a text that grows

over_more : (xs t p : List ℕ) → over (over xs 0 t) (length t) p ≡ over xs 0 (t ++ p)
unfolding over
over_more xs t p =
    let d = drop (0 + length t) xs in
    let e : 0 + length t + length p ≡ 0 + length (t ++ p) = omega (arith, length-append t p) in
    rw (take_at t d (length t) refl, drop-append-add t d (length p), drop-drop (length p) (0 + length t) xs, e) (sym (append_assoc t p _))

-- where the text t fits into ys: ys is xs with t in front, whose end is at e
abbrev pub Grown : List ℕ → List ℕ → List ℕ → ℕ → Type 0
Grown xs t ys e = length t ≤ length ys → (e ≡ length t) × (ys ≡ over xs 0 t)

pub grown_none : (xs : List ℕ) → Grown xs [] xs 0
unfolding over
grown_none xs l = (refl, refl)

length_most : (d : List ℕ) (at : ℕ) (s : List ℕ) → length (over d at s) ≤ length d + length s
unfolding over
length_most d at s = simp (length-append, length-take, length-drop) (omega arith)

-- a part replaced after it
pub grown_over : (xs t p : List ℕ) {ys zs : List ℕ} {at e : ℕ} → Grown xs t ys at → (e ≡ at + length p) × (zs ≡ over ys at p) → Grown xs (t ++ p) zs e
grown_over xs t p {ys} {zs} {at} {e} g h l =
    let n = length-append t p in
    let m : length zs ≤ length ys + length p = rw h.1 (length_most ys at p) in
    let k = g (omega (arith, n, m)) in
    (omega (arith, k.0, h.0, n), h.1 ∙ rw (k.0, k.1) (over_more xs t p))

-- a part put after it
pub grown_more : (xs t p : List ℕ) {ys zs : List ℕ} {at e : ℕ} → Grown xs t ys at → (e ≡ end_of ys at p) × (zs ≡ put_part ys at p) → Grown xs (t ++ p) zs e
grown_more xs t p {ys} {zs} {at} {e} g h l =
    let n = length-append t p in
    let s : length zs ≡ length ys = rw h.1 (length_put ys at p) in
    let k = g (omega (arith, n, s)) in
    grown_over xs t p g (put_fits ys at p (omega (arith, n, k.0, s)) h) l

pub grown_counts : (xs t : List ℕ) {ys : List ℕ} {e : ℕ} → Grown xs t ys e → length t ≤ length ys → (e ≡ length t) × ((ys ≡ over xs 0 t) × IsPrefixLen e ys)
grown_counts xs t {ys} {e} g l =
    let k = g l in
    let m : e ≤ length ys = omega (arith, k.0) in
    (k.0, (k.1, (m, sym (length-take-le e ys m))))

-- ---- decimal digits

glyph_digit : (n : ℕ) → hex_digit_ascii (n % 10) ≡ digit n
glyph_digit n = let h : n % 10 < 10 = omega arith in rw (lt-ltb (n % 10) 10 h)

some : (k : ℕ) → 1 ≤ 10 ^ k
some zero = omega arith
some (suc k) = omega (arith, some k)

pub digits_by : (most k n : ℕ) → k ≤ most → IsDigitCount 10 1 n k → last_digits 10 k n ≡ decimal_by most n
unfolding decimal_by
digits_by most zero n l f = absurd (omega (arith, f.0))
digits_by zero (suc k) n l f = absurd (omega arith)
digits_by (suc most) (suc zero) n l f = let h : n < 10 = omega (arith, f.1) in rw (lt-ltb n 10 h, glyph_digit n)
digits_by (suc most) (suc (suc k)) n l f =
    let e : suc (suc k) - 1 ≡ suc k = omega arith in
    let d : suc k - 1 ≡ k = omega arith in
    let b : 10 ^ suc k ≤ n = rw e at (f.2 (omega arith)) in
    let h : 10 ≤ n = omega (arith, some k) in
    let i = digits_by most (suc k) (n / 10) (omega arith) (omega arith, omega (arith, f.1), λ g. rw d (omega arith)) in
    rw (le-ltb n 10 h, glyph_digit n, i)

one_more : (b : Bool) (most d : ℕ) (t : List ℕ) → length t ≤ most → length (cond b (d ∷ []) (t ++ (d ∷ []))) ≤ suc most
one_more true most d t l = omega arith
one_more false most d t l = simp length-append (omega arith)

by_short : (most n : ℕ) → length (decimal_by most n) ≤ most
unfolding decimal_by
by_short zero n = omega arith
by_short (suc most) n = one_more (ltb n 10) most (digit n) (decimal_by most (n / 10)) (by_short most (n / 10))

pub decimal_short : (n : ℕ) → length (decimal_of n) ≤ 20
unfolding decimal_of
decimal_short n = by_short 20 n

-- a number of 64 bits has at most 20 digits
digits_short : (n k : ℕ) → n < 2 ^ 64 → IsDigitCount 10 1 n k → k ≤ 20
digits_short n k l f =
    split (ltb 20 k)
    (λ y.
    let h : 20 < k = ltb-true 20 k y in
    let j : 20 ≤ k - 1 = omega arith in
    let p : 10 ^ 20 ≤ 10 ^ (k - 1) = pow-le-pow_right {n = 10} (omega arith) j in
    absurd (omega (arith, f.2 (omega arith))))
    (λ y. ltb-false 20 k y)

-- the text that `io::decimal` makes
pub decimal_is : (n k : ℕ) {t : List ℕ} → n < 2 ^ 64 → IsDigitCount 10 1 n k → t ≡ last_digits 10 k n → t ≡ decimal_of n
unfolding decimal_of
decimal_is n k l f e = e ∙ digits_by 20 k n (digits_short n k l f) f

pub pair_short : (index answer : ℕ) → length (pair_text index answer) ≤ 41
pair_short index answer = simp length-append (omega (arith, decimal_short index, decimal_short answer))
