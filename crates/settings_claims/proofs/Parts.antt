-- A list cut into rows of one width. Assumes nothing.
use mathlib.Core.Path.{◌≡◌, refl, sym, ap, ◌∙◌}
use mathlib.Core.List.{List, [], ◌∷◌}
use Prim.Native.Nat.{ℕ, zero, suc, ◌+◌, ◌*◌, ◌<◌, ◌≤◌}
use native.Mathlib.Nat.{zero-add, suc-add, mul-zero, mul-suc, mul-le-mul_left}
use native.Mathlib.Numerals.{add-one}
use native.Mathlib.Omega.{arith}
use lib.ListN.{length, take, drop, length-drop, take-append-drop}
use lib.Seq.{take-nil, drop-nil, take-take, take_all, length-take-le}
use Rattle.laws.specs.Rows.{rows}

-- a part of a list is the end of its beginning
part : (n m : ℕ) (l : List ℕ) → take m (drop n l) ≡ drop n (take (n + m) l)
part zero m l = rw (zero-add m) refl
part (suc n) m [] = rw (take-nil m, take-nil (suc n + m), drop-nil (suc n)) refl
part (suc n) m (x ∷ l) = rw (suc-add n m) (part n m l)

-- a part that ends within the first j elements
part_within : (n m j : ℕ) (l : List ℕ) → n + m ≤ j → take m (drop n (take j l)) ≡ take m (drop n l)
part_within n m j l h = part n m (take j l) ∙ ap (drop n) (take-take (n + m) j l h) ∙ sym (part n m l)

empty : (l : List ℕ) → length l ≡ 0 → l ≡ []
empty [] e = refl
empty (x ∷ l) e = absurd (omega arith)

-- a list whose parts of the width w are the rows is the rows
pub rows_parts : (w : ℕ) (f : ℕ → List ℕ) (n : ℕ) (l : List ℕ) → length l ≡ w * n → ((k : ℕ) → k < n → take w (drop (w * k) l) ≡ f k) → rows f n ≡ l
unfolding rows
rows_parts w f zero l e h = sym (empty l (e ∙ mul-zero w))
rows_parts w f (suc n) l e h =
    let long : length l ≡ w * n + w = e ∙ mul-suc w n in
    let front : length (take (w * n) l) ≡ w * n = length-take-le (w * n) l (omega arith) in
    let less : (k : ℕ) → k < n → w * k + w ≤ w * n = λ k m. (let q : w * (k + 1) ≤ w * n = mul-le-mul_left w (omega arith) in omega (arith, q, mul-suc w k, add-one k)) in
    let first : rows f n ≡ take (w * n) l =
    rows_parts w f n (take (w * n) l) front (λ k m. part_within (w * k) w (w * n) l (less k m) ∙ h k (omega arith)) in
    let last : f n ≡ drop (w * n) l = sym (h n (omega arith)) ∙ take_all w (drop (w * n) l) (rw (length-drop (w * n) l) (omega arith)) in
    rw (first, last) (take-append-drop (w * n) l)
