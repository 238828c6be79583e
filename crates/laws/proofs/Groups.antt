-- Fields of small widths, taken together as fields of larger widths, have the same number. Assumes nothing.
use mathlib.Core.Path.{◌≡◌, refl, ◌∙◌}
use mathlib.Core.List.{List, [], ◌∷◌, ◌++◌}
use Prim.Native.Nat.{ℕ, ◌+◌, ◌*◌, ◌^◌, ◌<◌}
use native.Mathlib.Nat.{mul_assoc, add-mul}
use native.Mathlib.Omega.{arith}
use lib.Pow.{pow-add}
use Rattle.laws.specs.Packing.{total, packed, unpacked, octets, Fit, none, one}
use Rattle.laws.proofs.Widths.{total_append, unpacked_fit, packed_unpacked}

pub packed_append : {ws vs : List ℕ} (us xs : List ℕ) → Fit ws vs → packed (ws ++ us) (vs ++ xs) ≡ packed ws vs * 2 ^ total us + packed us xs
unfolding packed total
packed_append us xs none = omega arith
packed_append us xs (one {w} {v} {ws} {vs} h f) =
    rw (packed_append us xs f, total_append ws us, pow-add 2 (total ws) (total us), add-mul (v * 2 ^ total ws) (packed ws vs) (2 ^ total us), mul_assoc v (2 ^ total ws) (2 ^ total us))
    (omega arith)

pub data Coarse : List ℕ → List ℕ → List ℕ → List ℕ → Type 0 where
  done : Coarse [] [] [] []
  group : {ws vs us xs us' xs' : List ℕ} {t n : ℕ} → Fit ws vs → total ws ≡ t → packed ws vs ≡ n → Coarse us xs us' xs' → Coarse (ws ++ us) (vs ++ xs) (t ∷ us') (n ∷ xs')

pub coarse_total : {ws vs us xs : List ℕ} → Coarse ws vs us xs → total ws ≡ total us
unfolding total
coarse_total done = refl
coarse_total (group {ws} {vs} {us} f e p g) = total_append ws us ∙ (rw (e, coarse_total g) refl)

pub coarse_packed : {ws vs us xs : List ℕ} → Coarse ws vs us xs → packed ws vs ≡ packed us xs
unfolding packed
coarse_packed done = refl
coarse_packed (group {ws} {vs} {us} {xs} f e p g) = packed_append us xs f ∙ (rw (p, coarse_total g, coarse_packed g) refl)

pub fit_append : {ws vs us xs : List ℕ} → Fit ws vs → Fit us xs → Fit (ws ++ us) (vs ++ xs)
fit_append none g = g
fit_append (one h f) g = one h (fit_append f g)

pub coarse_fit : {ws vs us xs : List ℕ} → Coarse ws vs us xs → Fit ws vs
coarse_fit done = none
coarse_fit (group f e p g) = fit_append f (coarse_fit g)

-- groups of one field, of two, and of n bytes
module _ {us xs us' xs' : List ℕ} where
  pub solo : (k p : ℕ) → p < 2 ^ k → Coarse us xs us' xs' → Coarse (k ∷ us) (p ∷ xs) (k ∷ us') (p ∷ xs')
  unfolding total packed
  solo k p h g = group {ws = k ∷ []} {vs = p ∷ []} {t = k} {n = p} (one h none) (omega arith) (omega arith) g

  pub pair : (k j p q n : ℕ) → p < 2 ^ k → q < 2 ^ j → p * 2 ^ j + q ≡ n → Coarse us xs us' xs' → Coarse (k ∷ j ∷ us) (p ∷ q ∷ xs) ((k + j) ∷ us') (n ∷ xs')
  unfolding total packed
  pair k j p q n hp hq e g =
      group {ws = k ∷ j ∷ []} {vs = p ∷ q ∷ []} {t = k + j} {n = n} (one hp (one hq none)) (omega arith) (rw zero_right (omega arith)) g
    where
      zero_right : j + 0 ≡ j
      zero_right = omega arith

  pub many : (ws : List ℕ) (a : ℕ) → a < 2 ^ total ws → Coarse us xs us' xs' → Coarse (ws ++ us) (unpacked ws a ++ xs) (total ws ∷ us') (a ∷ xs')
  many ws a h g = group (unpacked_fit ws a) refl (packed_unpacked ws a h) g

  pub octs : (n a : ℕ) → a < 2 ^ total (octets n) → Coarse us xs us' xs' → Coarse (octets n ++ us) (unpacked (octets n) a ++ xs) (total (octets n) ∷ us') (a ∷ xs')
  octs n a h g = group (unpacked_fit (octets n) a) refl (packed_unpacked (octets n) a h) g
