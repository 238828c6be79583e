-- The bytes that characters say by their values, as a loop stores them. Assumes nothing.
use mathlib.Core.Path.{◌≡◌, refl, sym, ◌∙◌}
use mathlib.Core.List.{List, [], ◌∷◌, ◌++◌}
use Prim.Native.Nat.{ℕ, zero, suc, min, ◌+◌, ◌*◌, ◌/◌, ◌%◌, ◌≤◌, ◌<◌}
use native.Mathlib.Numerals.{add-one}
use native.Mathlib.Omega.{arith}
use lib.Dec.{ltb}
use lib.ListN.{length, get_or, take, drop, set, drop_of_length-le}
use lib.Seq.{take_all, take-suc, drop-cons, set_at, append_snoc, length-take-le}
use borrow.Author.Tests.{ltb-true, ltb-false}
use Rattle.laws.proofs.Tests.{split}
use Rattle.hex_digits.specs.Pairs.{bytes_by, decoded_by}

module _ (v : ℕ → ℕ) where
  pub length_bytes : (l : List ℕ) → length (bytes_by v l) ≡ length l / 2
  unfolding bytes_by
  length_bytes [] = refl
  length_bytes (c ∷ []) = refl
  length_bytes (c ∷ d ∷ l) = omega (arith, length_bytes l)

  -- the byte that two characters say
  abbrev pub pair : List ℕ → ℕ → ℕ
  pair l k = 16 * (v (get_or l (2 * k) 0) % 16) + v (get_or l (2 * k + 1) 0) % 16

  pub bytes_at : (l : List ℕ) (k : ℕ) → 2 * k + 1 < length l → get_or (bytes_by v l) k 0 ≡ pair l k
  unfolding bytes_by
  bytes_at [] k h = absurd (omega arith)
  bytes_at (c ∷ []) k h = absurd (omega arith)
  bytes_at (c ∷ d ∷ l) zero h = refl
  bytes_at (c ∷ d ∷ l) (suc k) h =
      let e : 2 * suc k ≡ suc (suc (2 * k)) = omega arith in
      let f : 2 * suc k + 1 ≡ suc (suc (2 * k + 1)) = omega arith in
      rw (f, e) (bytes_at l k (omega arith))

  -- the first i bytes over the beginning of `out`
  abbrev pub begun : List ℕ → List ℕ → ℕ → List ℕ
  begun l out i = take i (bytes_by v l) ++ drop i out

  -- one byte more, as a loop stores it
  pub begun_next : (l lent out : List ℕ) (i : ℕ) {high low : ℕ} → i < min (length l / 2) (length lent)
      → high ≡ v (get_or l (2 * i) 0) → low ≡ v (get_or l (2 * i + 1) 0) → out ≡ begun l lent i
      → set out i (16 * (high % 16) + low % 16) ≡ begun l lent (i + 1)
  begun_next l lent out i {high} {low} h e f q =
      let w = bytes_by v l in
      let x = 16 * (high % 16) + low % 16 in
      let k : i < length w = omega (arith, length_bytes l) in
      let b : get_or w i 0 ≡ x = bytes_at l i (omega arith) ∙ rw (e, f) in
      rw (q, drop-cons lent i 0 (omega arith), set_at (take i w) (get_or lent i 0) (drop (suc i) lent) x i (length-take-le i w (omega arith)), add-one, take-suc w i 0 k, b)
      (sym (append_snoc (take i w) x (drop (suc i) lent)))

  -- as many as there are and `out` has room for
  pub begun_all : (l out : List ℕ) (k : ℕ) → k ≡ min (length l / 2) (length out) → begun l out k ≡ decoded_by v l out
  unfolding decoded_by
  begun_all l out k m =
      let w = bytes_by v l in
      let n : length w ≡ length l / 2 = length_bytes l in
      split (ltb (length out) (length l / 2))
      (λ y.
      let h : length out < length l / 2 = ltb-true _ _ y in
      let f : k ≡ length out = omega arith in
      let g : drop k out ≡ [] = drop_of_length-le out {i = k} (omega arith) in
      let z : drop (length l / 2) out ≡ [] = drop_of_length-le out {i = length l / 2} (omega arith) in
      rw (g, z, f))
      (λ y.
      let h : length l / 2 ≤ length out = ltb-false _ _ y in
      let f : k ≡ length l / 2 = omega arith in
      rw (take_all k w (omega arith), take_all (length out) w (omega arith), f))
