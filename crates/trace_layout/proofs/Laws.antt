-- An index in eight bytes. Assumes nothing.
use Prim.Native.Nat.{ℕ, zero, suc, ◌/◌, ◌%◌, ◌^◌}
use mathlib.Core.Path.{◌≡◌, refl, sym, ap, ◌∙◌}
use mathlib.Core.Logic.{◌≢◌}
use mathlib.Core.List.{List}
use native.Mathlib.Nat.{div-one, div-div-eq-div-mul, pow-suc}
use lib.ListN.{length}
use borrow.Author.Tests.{eq-eqb, ne_eqb}
use Rattle.std.specs.Int.{bytes_low_first, byte_at}
use Rattle.laws.specs.Bytes.{low_first}
use Rattle.trace_layout.specs.Kept.{index_over}

byte_is : (k i : ℕ) → byte_at k i ≡ i / 256 ^ k % 256
byte_is zero i = ap (λ (n : ℕ). n % 256) (sym (div-one i))
byte_is (suc k) i = refl

above : (k i : ℕ) → i / 256 ^ k / 256 ≡ i / 256 ^ suc k
above k i = div-div-eq-div-mul i (256 ^ k) 256 ∙ ap (λ (n : ℕ). i / n) (sym (pow-suc 256 k))

-- std's bytes of a number, the lowest first
low_is : (n k i : ℕ) → bytes_low_first k n i ≡ low_first n (i / 256 ^ k)
unfolding low_first
low_is zero k i = refl
low_is (suc n) k i = rw (byte_is k i, low_is n (suc k) i, above k i)

module _ (l : List ℕ) (i : ℕ) where
  pub index_other : length l ≢ 8 → l ≡ index_over l i
  unfolding index_over
  index_other h = rw (ne_eqb (length l) 8 h)

  pub index_put : length l ≡ 8 → bytes_low_first 0 8 i ≡ index_over l i
  unfolding index_over
  index_put e = low_is 8 0 i ∙ ap (low_first 8) (div-one i) ∙ rw (eq-eqb (length l) 8 e)
