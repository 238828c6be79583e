-- What a search over a range finds, and a piece as code takes it. Assumes nothing.
use Prim.Native.Nat.{ℕ, zero, suc, ◌+◌, ◌-◌, ◌*◌, ◌<◌, ◌≤◌}
use mathlib.Core.Path.{◌≡◌, refl, sym, ap, ◌∙◌}
use native.Mathlib.Omega.{arith}
use mathlib.Core.Bool.{true, false}
use Rattle.std.specs.Prelude.{Option, Some, None, MatchOption, is_some}
use Rattle.std.specs.Option.{unwrap_or}
use Rattle.laws.specs.Sets.{Set, any, least}
use Rattle.laws.proofs.Tests.{split, clash}
use Rattle.laws.proofs.Laws.{any_none, any_hit, any_cong, least_none, least_is}
use mathlib.Core.List.{List}
use lib.ListN.{take, drop}
use Rattle.file_check.specs.Check.{piece_at}
use Rattle.file_check.specs.First.{first_below}

-- a piece, as a part of the file
pub part_is : (f : List ℕ) (i : ℕ) → take (i * 512 + 512 - i * 512) (drop (i * 512) f) ≡ piece_at f i
unfolding piece_at
part_is f i = let e : i * 512 + 512 - i * 512 ≡ 512 = omega arith in rw e

-- tests that agree below n have the same least number there
pub least_cong : (n : ℕ) (P Q : Set) → ((j : ℕ) → j < n → P j ≡ Q j) → least n P ≡ least n Q
unfolding least
least_cong zero P Q h = refl
least_cong (suc n) P Q h =
    rw (any_cong n P Q (λ j l. h j (omega arith)), least_cong n P Q (λ j l. h j (omega arith)), h n (omega arith))

module _ (n : ℕ) (P : Set) where
  -- what `find` over 0..n says
  abbrev pub Finds : Option ℕ → Type 0
  Finds r = MatchOption r ((k : ℕ) → 0 ≤ k → k < n → P k ≡ false) (λ i. (0 ≤ i) × (i < n) × (P i ≡ true) × ((k : ℕ) → 0 ≤ k → k < i → P k ≡ false))

  pub finds_least : (r : Option ℕ) → Finds r → unwrap_or r n ≡ least n P
  finds_least None h = sym (least_none P n (any_none P n (λ k l. h k (omega arith) l)))
  finds_least (Some i) h = sym (least_is P n i h.1 (any_none P i (λ k l. h.3 k (omega arith) l)) h.2)

  pub finds_first : (r : Option ℕ) → Finds r → r ≡ first_below n P
  unfolding first_below
  finds_first None h = rw (any_none P n (λ k l. h k (omega arith) l))
  finds_first (Some i) h = rw (any_hit P n i h.1 h.2) (ap Some (sym (least_is P n i h.1 (any_none P i (λ k l. h.3 k (omega arith) l)) h.2)))

  -- and back
  pub first_some : {i : ℕ} → Some i ≡ first_below n P → (any n P ≡ true) × (i ≡ least n P)
  unfolding first_below
  first_some {i} e =
      split (any n P)
      (λ y. (y, ap (λ (o : Option ℕ). unwrap_or o 0) (rw y at e)))
      (λ z. clash true refl (ap is_some (rw z at e)))

  pub first_none : None ≡ first_below n P → any n P ≡ false
  unfolding first_below
  first_none e =
      split (any n P)
      (λ y. clash false (ap is_some (rw y at e)) refl)
      (λ z. z)

  pub first_else : {r : Option ℕ} → r ≡ first_below n P → ((i : ℕ) → r ≡ Some i → ⊥) → any n P ≡ false
  unfolding first_below
  first_else e d =
      split (any n P)
      (λ y. absurd (d (least n P) (e ∙ rw y)))
      (λ z. z)
