-- The laws of a list by the value at each index. Assumes nothing.
use mathlib.Core.Path.{◌≡◌, refl, sym, ap, ◌∙◌}
use mathlib.Core.List.{List}
use Prim.Native.Nat.{ℕ, zero, suc, ◌+◌, ◌<◌}
use native.Mathlib.Nat.{not-suc-le-zero, add-zero, le_of_suc-le-suc}
use native.Mathlib.Omega.{arith}
use lib.ListN.{length, get_or}
use lib.Seq.{ext_get_or}
use Rattle.laws.specs.Tab.{from, tab}

length_from : (i : ℕ) (f : ℕ → ℕ) (n : ℕ) → length (from i f n) ≡ n
unfolding from
length_from i f zero = refl
length_from i f (suc n) = ap suc (length_from (suc i) f n)

get_d_from : (i : ℕ) (f : ℕ → ℕ) (n j : ℕ) → j < n → get_or (from i f n) j 0 ≡ f (i + j)
unfolding from
get_d_from i f zero j h = absurd (not-suc-le-zero h)
get_d_from i f (suc n) zero h = ap f (sym (add-zero i))
get_d_from i f (suc n) (suc j) h = get_d_from (suc i) f n j (le_of_suc-le-suc h) ∙ ap f (omega arith)

pub length_tab : (n : ℕ) (f : ℕ → ℕ) → length (tab n f) ≡ n
unfolding tab
length_tab n f = length_from 0 f n

pub get_d_tab : (n : ℕ) (f : ℕ → ℕ) (j : ℕ) → j < n → get_or (tab n f) j 0 ≡ f j
unfolding tab
get_d_tab n f j h = get_d_from 0 f n j h ∙ ap f (omega arith)

-- a list that has the function's values is the function's list
pub is_tab : (l : List ℕ) (n : ℕ) (f : ℕ → ℕ) → length l ≡ n → ((j : ℕ) → j < n → get_or l j 0 ≡ f j) → l ≡ tab n f
is_tab l n f e h =
    ext_get_or 0 l (tab n f) (e ∙ sym (length_tab n f))
    (λ j u. let v : j < n = omega arith in h j v ∙ sym (get_d_tab n f j v))
