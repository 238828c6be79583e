-- What rows 23 to 25 decide, of bytes that begin with those that a line says. Assumes nothing.
use Rattle.std.proofs.Common.{◌≡◌, ℕ, ◌+◌, ◌*◌, ◌/◌, ◌%◌, ◌<◌, ◌≤◌, eqb, ltb, List, take, sym, ap, ◌∙◌, arith, get_or-take, ltb-false, ltb-true, eqb-true}
use Rattle.std.specs.Prelude.{Err}
use borrow.Author.Tests.{eqb-false}
use Rattle.laws.proofs.Tests.{split}
use Rattle.ihex_record.specs.declared.LineError.TheVariants.{TooLong, BadLength, BadSum}
use Rattle.ihex_record.specs.Record.{len_of, total, good, refused, line_of_bytes}
use Rattle.ihex_record.proofs.Checks.{is_too_long, is_bad_length, is_bad_sum, is_good_lem}
use Rattle.ihex_record.specs.Bytes.{line_in}

module _ (n : ℕ) (b : List ℕ) where
  -- the bytes that the length field speaks of
  abbrev all : List ℕ
  all = take (len_of b + 5) b

  len_first : (k : ℕ) → 0 < k → len_of (take k b) ≡ len_of b
  len_first k h = get_or-take k b 0 0 h

  len_all : len_of all ≡ len_of b
  len_all = len_first (len_of b + 5) (omega arith)

  pub in_too_long : 32 < len_of b → refused (Err TooLong) ≡ line_in n b
  unfolding line_in
  in_too_long h = is_too_long n all (rw len_all h)

  module _ (fits : len_of b ≤ 32) where
    pub in_bad_length : (n ≡ 11 + 2 * len_of b → ⊥) → refused (Err BadLength) ≡ line_in n b
    unfolding line_in
    in_bad_length h = is_bad_length n all (rw len_all fits) (rw len_all h)

    module _ (long : n ≡ 11 + 2 * len_of b) where
      pub in_bad_sum : (total all % 256 ≡ 0 → ⊥) → refused (Err BadSum) ≡ line_in n b
      unfolding line_in
      in_bad_sum h = is_bad_sum n all (rw len_all fits) (rw len_all long) h

      pub in_good : total all % 256 ≡ 0 → good all ≡ line_in n b
      unfolding line_in
      in_good h = is_good_lem n all (rw len_all fits) (rw len_all long) h

  -- the bytes that n characters say
  pub in_bytes : 10 < n → line_in n b ≡ line_of_bytes n (take (n / 2) b)
  unfolding line_in
  in_bytes m =
      let w = take (n / 2) b in
      let f : len_of w ≡ len_of b = len_first (n / 2) (omega arith) in
      split (ltb 32 (len_of b))
      (λ y.
      let h : 32 < len_of b = ltb-true 32 (len_of b) y in
      sym (in_too_long h) ∙ is_too_long n w (rw f h))
      (λ y.
      let h : len_of b ≤ 32 = ltb-false 32 (len_of b) y in
      split (eqb n (11 + 2 * len_of b))
      (λ z.
      let q : n ≡ 11 + 2 * len_of b = eqb-true _ _ z in
      let k : len_of b + 5 ≡ n / 2 = omega arith in
      ap (λ (j : ℕ). line_of_bytes n (take j b)) k)
      (λ z.
      let q : n ≡ 11 + 2 * len_of b → ⊥ = eqb-false _ _ z in
      sym (in_bad_length h q) ∙ is_bad_length n w (rw f h) (rw f q)))
