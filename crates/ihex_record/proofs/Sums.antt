-- The sum of bytes: of the bytes passed, and of two lists. Assumes nothing.
use Rattle.std.proofs.Common.{◌≡◌, ℕ, ◌+◌, ◌%◌, ◌<◌, List, [], ◌∷◌, ◌++◌, length, get_or, take, sym, refl, ap, ◌∙◌, add-one, arith, take-suc}
use native.Mathlib.Nat.{mod-add-mod}
use Rattle.ihex_record.specs.Record.{total}

pub total_append : (l r : List ℕ) → total (l ++ r) ≡ total l + total r
unfolding total
total_append [] r = omega arith
total_append (b ∷ l) r = omega (arith, total_append l r)

pub total_one : (b : ℕ) → total (b ∷ []) ≡ b
unfolding total
total_one b = omega arith

pub total_none : (l : List ℕ) → 0 ≡ total (take 0 l) % 256
unfolding total
total_none l = refl

-- one byte more, as a loop takes it
pub total_next : (l : List ℕ) (i : ℕ) → i < length l → (total (take i l) % 256 + get_or l i 0) % 256 ≡ total (take (i + 1) l) % 256
total_next l i h =
    mod-add-mod (total (take i l)) 256 (get_or l i 0)
    ∙ ap (λ (k : ℕ). k % 256) (sym (rw (add-one, take-suc l i 0) (total_append (take i l) (get_or l i 0 ∷ []) ∙ ap (λ (k : ℕ). total (take i l) + k) (total_one (get_or l i 0)))))
