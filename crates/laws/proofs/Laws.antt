-- The laws of sets of numbers. Assumes nothing.
use mathlib.Core.Path.{◌≡◌, refl, sym, ap, ◌∙◌, fun_ext}
use mathlib.Core.Logic.{◌≢◌}
use mathlib.Core.Bool.{Bool, true, false, cond, ◌||◌, ◌&&◌, or-true, and-false}
use Prim.Native.Nat.{ℕ, zero, suc, ◌+◌, ◌<◌, ◌≤◌}
use native.Mathlib.Nat.{not-suc-le-zero, suc-add, zero-add}
use native.Mathlib.Numerals.{add-one}
use native.Mathlib.Omega.{arith}
use lib.Dec.{eqb}
use borrow.Author.Tests.{eqb-true, eqb-false, ne_eqb}
use Rattle.laws.specs.Sets.{Set, none, add, one, size, any, least}
use Rattle.laws.proofs.Tests.{split, clash, is_false, eqb_same, or_idle, or_left, or_right}

pub add_idle : (k : ℕ) (S : Set) → S k ≡ true → add k S ≡ S
add_idle k S h = fun_ext (λ j. or_idle (eqb j k) (S j) (λ e. ap S (eqb-true j k e) ∙ h))

-- ---- how many

pub size_none : (n : ℕ) → size n none ≡ 0
unfolding size
size_none zero = refl
size_none (suc n) = rw (size_none n)

pub one_le : (b : Bool) → one b ≤ 1
one_le true = omega arith
one_le false = omega arith

pub size_le : (n : ℕ) (S : Set) → size n S ≤ n
unfolding size
size_le zero S = omega arith
size_le (suc n) S = omega (arith, size_le n S, one_le (S n))

-- a number outside leaves room
pub size_lt : (n : ℕ) (S : Set) (k : ℕ) → k < n → S k ≡ false → size n S < n
unfolding size
size_lt zero S k h e = absurd (not-suc-le-zero h)
size_lt (suc n) S k h e =
    split (eqb k n)
    (λ q. let f : S n ≡ false = ap S (sym (eqb-true k n q)) ∙ e in rw f (omega (arith, size_le n S)))
    (λ q. let d : k ≢ n = eqb-false k n q in omega (arith, size_lt n S k (omega arith) e, one_le (S n)))

-- what is added above n does not count
pub size_above : (n : ℕ) (S : Set) (k : ℕ) → n ≤ k → size n (add k S) ≡ size n S
unfolding size
size_above zero S k h = refl
size_above (suc n) S k h =
    let q : eqb n k ≡ false = ne_eqb n k (omega arith) in
    rw (q, size_above n S k (omega arith))

-- a new number adds one
pub size_add : (n : ℕ) (S : Set) (k : ℕ) → k < n → S k ≡ false → size n (add k S) ≡ suc (size n S)
unfolding size
size_add zero S k h e = absurd (not-suc-le-zero h)
size_add (suc n) S k h e =
    split (eqb n k)
    (λ q.
    let f : S n ≡ false = ap S (eqb-true n k q) ∙ e in
    rw (q, f, size_above n S k (omega (arith, eqb-true n k q))) (omega arith))
    (λ q. let d : n ≢ k = eqb-false n k q in rw (q, size_add n S k (omega arith) e) (omega arith))

-- a number inside counts
pub size_some : (n : ℕ) (S : Set) (k : ℕ) → k < n → S k ≡ true → 1 ≤ size n S
unfolding size
size_some zero S k h e = absurd (not-suc-le-zero h)
size_some (suc n) S k h e =
    split (eqb k n)
    (λ q. let f : S n ≡ true = ap S (sym (eqb-true k n q)) ∙ e in rw f (omega arith))
    (λ q. let d : k ≢ n = eqb-false k n q in omega (arith, size_some n S k (omega arith) e))

pub size_full : (n : ℕ) (S : Set) (k : ℕ) → n ≤ size n S → k < n → S k ≡ true
size_full n S k e h = split (S k) (λ y. y) (λ z. absurd (omega (arith, size_lt n S k h z)))

pub size_cong : (n : ℕ) (S R : Set) → ((j : ℕ) → j < n → S j ≡ R j) → size n S ≡ size n R
unfolding size
size_cong zero S R h = refl
size_cong (suc n) S R h = rw (h n (omega arith), size_cong n S R (λ j l. h j (omega arith)))

-- S has numbers below n alone
unfoldable pub Within : ℕ → Set → Type 0
Within n S = (j : ℕ) → S j ≡ true → j < n

-- a set that has none from t on counts the same below any greater number
pub size_within : (t r : ℕ) (S : Set) → Within t S → size (r + t) S ≡ size t S
unfolding size Within
size_within t zero S h = ap (λ (x : ℕ). size x S) (zero-add t)
size_within t (suc r) S h =
    let z : S (r + t) ≡ false = split (S (r + t)) (λ y. absurd (omega (arith, h (r + t) y))) (λ z. z) in
    ap (λ (x : ℕ). size x S) (suc-add r t) ∙ rw (z, size_within t r S h) (omega arith)

-- ---- numbers below n alone

pub within_none : (n : ℕ) → Within n none
unfolding Within
within_none n j e = clash false e refl

pub within_add : (n k : ℕ) (S : Set) → k < n → Within n S → Within n (add k S)
unfolding Within
within_add n k S h wi j e = split (eqb j k) (λ q. omega (arith, eqb-true j k q)) (λ q. wi j (rw q at e))

-- ---- whether one passes

module _ (P : Set) where
  pub any_zero : any 0 P ≡ false
  unfolding any
  any_zero = refl

  -- one number more, as a loop takes it
  pub any_more : (i : ℕ) → any i P ≡ false → P i ≡ false → any (i + 1) P ≡ false
  unfolding any
  any_more i h q = rw (add-one, h, q)

  pub any_hit : (n k : ℕ) → k < n → P k ≡ true → any n P ≡ true
  unfolding any
  any_hit zero k h e = absurd (not-suc-le-zero h)
  any_hit (suc n) k h e =
      split (eqb k n)
      (λ q. let f : P n ≡ true = ap P (sym (eqb-true k n q)) ∙ e in rw f (or-true (any n P)))
      (λ q. let d : k ≢ n = eqb-false k n q in rw (any_hit n k (omega arith) e))

  pub any_none : (n : ℕ) → ((j : ℕ) → j < n → P j ≡ false) → any n P ≡ false
  unfolding any
  any_none zero h = refl
  any_none (suc n) h = rw (h n (omega arith), any_none n (λ j l. h j (omega arith)))

  pub any_all : (n : ℕ) → any n P ≡ false → (j : ℕ) → j < n → P j ≡ false
  any_all n h j l = is_false (P j) (λ t. clash (any n P) (any_hit n j l t) h)

  pub any_found : (n : ℕ) → any n P ≡ true → (k : ℕ) × (k < n) × (P k ≡ true)
  unfolding any
  any_found zero e = clash false e refl
  any_found (suc n) e =
      split (any n P)
      (λ q. let r : (k : ℕ) × (k < n) × (P k ≡ true) = any_found n q in (r.0, omega (arith, r.1), r.2))
      (λ q. (n, omega arith, rw q at e))

pub any_cong : (n : ℕ) (P Q : Set) → ((j : ℕ) → j < n → P j ≡ Q j) → any n P ≡ any n Q
unfolding any
any_cong zero P Q h = refl
any_cong (suc n) P Q h = rw (h n (omega arith), any_cong n P Q (λ j l. h j (omega arith)))

-- one of two tests
pub any_or : (n : ℕ) (P Q : Set) → any n (λ j. P j || Q j) ≡ any n P || any n Q
unfolding any
any_or zero P Q = refl
any_or (suc n) P Q = rw (any_or n P Q) (four (any n P) (any n Q) (P n) (Q n))
  where
    four : (a b c d : Bool) → (a || b) || (c || d) ≡ (a || c) || (b || d)
    four true b c d = refl
    four false true true d = refl
    four false true false d = refl
    four false false true d = refl
    four false false false d = refl

-- what one number more adds to a search in a set
pub any_add : (n : ℕ) (Q S : Set) (k : ℕ) → k < n → any n (λ i. add k S i && Q i) ≡ Q k || any n (λ i. S i && Q i)
any_add n Q S k h =
    split (Q k)
    (λ q. rw q (any_hit (λ i. add k S i && Q i) n k h (rw (eqb_same k) q)))
    (λ q. rw q (any_cong n (λ i. add k S i && Q i) (λ i. S i && Q i) (λ i l. same q i)))
  where
    same : Q k ≡ false → (i : ℕ) → add k S i && Q i ≡ S i && Q i
    same q i =
        split (eqb i k)
        (λ e. let z : Q i ≡ false = ap Q (eqb-true i k e) ∙ q in rw (z, and-false (add k S i), and-false (S i)))
        (λ e. rw e)

-- ---- the least that passes

module _ (P : Set) where
  pub least_none : (n : ℕ) → any n P ≡ false → least n P ≡ n
  unfolding least any
  least_none zero h = refl
  least_none (suc n) h = rw (or_left (any n P) (P n) h, or_right (any n P) (P n) h)

  -- the number below which none passes, and which passes
  pub least_is : (n k : ℕ) → k < n → any k P ≡ false → P k ≡ true → least n P ≡ k
  unfolding least
  least_is zero k h e t = absurd (not-suc-le-zero h)
  least_is (suc n) k h e t =
      split (eqb k n)
      (λ q. let s : k ≡ n = eqb-true k n q in let a : any n P ≡ false = ap (λ (m : ℕ). any m P) (sym s) ∙ e in let b : P n ≡ true = ap P (sym s) ∙ t in rw (a, b) (sym s))
      (λ q. let d : k ≢ n = eqb-false k n q in rw (any_hit P n k (omega arith) t) (least_is n k (omega arith) e t))

  -- where one passes, the least is one that passes, and none below it does
  pub least_below : (n : ℕ) → any n P ≡ true → (least n P < n) × (P (least n P) ≡ true) × (any (least n P) P ≡ false)
  unfolding least any
  least_below zero e = clash false e refl
  least_below (suc n) e =
      split (any n P)
      (λ q. let r = least_below n q in rw q (omega (arith, r.0), r.1, r.2))
      (λ q. let p : P n ≡ true = rw q at e in rw (q, p) (omega arith, p, q))

-- ---- the value of the one that passes

-- the value of the number below n that passes the test, and d where none does
unfoldable pub pick : ℕ → Set → (ℕ → ℕ) → ℕ → ℕ
pick zero P v d = d
pick (suc n) P v d = cond (P n) (v n) (pick n P v d)

module _ (P : Set) (v : ℕ → ℕ) (d : ℕ) where
  pub pick_none : (n : ℕ) → ((j : ℕ) → j < n → P j ≡ false) → pick n P v d ≡ d
  unfolding pick
  pick_none zero h = refl
  pick_none (suc n) h = rw (h n (omega arith), pick_none n (λ j l. h j (omega arith)))

  pub pick_hit : (n k : ℕ) → k < n → P k ≡ true → ((j : ℕ) → j < n → P j ≡ true → j ≡ k) → pick n P v d ≡ v k
  unfolding pick
  pick_hit zero k h e u = absurd (not-suc-le-zero h)
  pick_hit (suc n) k h e u =
      split (P n)
      (λ q. rw q (ap v (u n (omega arith) q)))
      (λ q.
      let w : k ≢ n = λ s. clash (P n) (ap P (sym s) ∙ e) q in
      rw q (pick_hit n k (omega arith) e (λ j l. u j (omega arith))))

pub pick_cong : (n : ℕ) (P Q : Set) (v : ℕ → ℕ) (d : ℕ) → ((j : ℕ) → j < n → P j ≡ Q j) → pick n P v d ≡ pick n Q v d
unfolding pick
pick_cong zero P Q v d h = refl
pick_cong (suc n) P Q v d h = rw (h n (omega arith), pick_cong n P Q v d (λ j l. h j (omega arith)))
