-- A table's rule from one test that is computed over its 256 entries, and what such a table says of characters. Assumes nothing.
use Prim.Native.Nat.{ℕ, suc, ◌<◌}
use mathlib.Core.Path.{◌≡◌, refl, sym, ◌∙◌}
use mathlib.Core.Bool.{false, not}
use mathlib.Core.List.{List, [], ◌∷◌}
use lib.Dec.{eqb}
use lib.ListN.{get_or}
use borrow.Author.Tests.{eqb-true, not-false}
use Rattle.laws.specs.Sets.{Set, any}
use Rattle.laws.proofs.Laws.{any_all}
use Rattle.hex_digits.specs.Values.{value_in}
use Rattle.hex_digits.proofs.pairs.Values.{value_at}
use Rattle.hex_digits.specs.Pairs.{bytes_by, decoded_by}
use Rattle.hex_digits.specs.First.{first_by}
use Rattle.hex_digits.specs.Digits.{digit_of, first_bad, bytes_of, decoded}
use Rattle.hex_digits.specs.Table.{TellsDigits}

-- the entries that are not as the rule says
abbrev pub wrong : List ℕ → Set
wrong t c = not (eqb (get_or t c 0) (digit_of c))

pub tells : (t : List ℕ) → any 256 (wrong t) ≡ false → TellsDigits t
tells t e = record { rule = λ c h. eqb-true (get_or t c 0) (digit_of c) (not-false _ (any_all (wrong t) 256 e c h)) }

-- every character is a byte
abbrev pub Bytes : List ℕ → Type 0
Bytes l = (i : ℕ) → get_or l i 0 < 256

module _ (t : List ℕ) (told : TellsDigits t) where
  pub told_value : (c : ℕ) → c < 256 → value_in t c ≡ digit_of c
  told_value c h = sym (value_at t c h) ∙ told.rule c h

  pub told_first : (l : List ℕ) → Bytes l → first_by (value_in t) l ≡ first_bad l
  unfolding first_by
  told_first [] b = refl
  told_first (c ∷ l) b = rw (told_value c (b 0), told_first l (λ i. b (suc i)))

  pub told_bytes : (l : List ℕ) → Bytes l → bytes_by (value_in t) l ≡ bytes_of l
  unfolding bytes_by
  told_bytes [] b = refl
  told_bytes (c ∷ []) b = refl
  told_bytes (c ∷ d ∷ l) b = rw (told_value c (b 0), told_value d (b 1), told_bytes l (λ i. b (suc (suc i))))

  pub told_decoded : (l out : List ℕ) → Bytes l → decoded_by (value_in t) l out ≡ decoded l out
  unfolding decoded_by
  told_decoded l out b = rw (told_bytes l b)
