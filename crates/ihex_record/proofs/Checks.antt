-- What each check of a line decides. Assumes nothing.
use Rattle.std.proofs.Common.{◌≡◌, ℕ, ◌+◌, ◌*◌, ◌%◌, ◌<◌, ◌≤◌, true, false, ◌||◌, eqb, ltb, List, length, get_or, drop, arith, ltb-false, le-ltb, lt-ltb, eq-eqb, ne_eqb}
use Rattle.std.specs.Prelude.{Err}
use mathlib.Core.Bool.{or-true}
use borrow.Author.Tests.{eqb-false}
use Rattle.laws.proofs.Tests.{or_left, or_right}
use Rattle.ihex_record.specs.declared.LineError.TheVariants.{NoColon, BadShape, BadDigit, TooLong, BadLength, BadSum}
use Rattle.ihex_record.specs.Record.{all_digits, first_bad, bytes_of, len_of, total, bad_shape, good, refused, line_of_bytes, line_of_text}

-- ---- rows 23 to 25, of n characters and their bytes

module _ (n : ℕ) (b : List ℕ) where
  pub is_too_long : 32 < len_of b → refused (Err TooLong) ≡ line_of_bytes n b
  unfolding line_of_bytes
  is_too_long h = rw (lt-ltb 32 (len_of b) h)

  module _ (fits : len_of b ≤ 32) where
    pub is_bad_length : (n ≡ 11 + 2 * len_of b → ⊥) → refused (Err BadLength) ≡ line_of_bytes n b
    unfolding line_of_bytes
    is_bad_length h = rw (le-ltb 32 (len_of b) fits, ne_eqb n (11 + 2 * len_of b) h)

    module _ (long : n ≡ 11 + 2 * len_of b) where
      pub is_bad_sum : (total b % 256 ≡ 0 → ⊥) → refused (Err BadSum) ≡ line_of_bytes n b
      unfolding line_of_bytes
      is_bad_sum h =
          rw (le-ltb 32 (len_of b) fits, eq-eqb n (11 + 2 * len_of b) long, ne_eqb (total b % 256) 0 h)

      pub is_good_lem : total b % 256 ≡ 0 → good b ≡ line_of_bytes n b
      unfolding line_of_bytes
      is_good_lem h =
          rw (le-ltb 32 (len_of b) fits, eq-eqb n (11 + 2 * len_of b) long, eq-eqb (total b % 256) 0 h)

-- ---- rows 20 to 22, of a text

pub record Shape (n : ℕ) : Type 0 where
  pub least : 10 < n
  pub most : n ≤ 521
  pub odd : n % 2 ≡ 1

pub shaped : (n : ℕ) → bad_shape n ≡ false → Shape n
shaped n e =
    let size = ltb n 11 || ltb 521 n in
    let f : n % 2 ≡ 0 → ⊥ = eqb-false (n % 2) 0 (or_right size _ e) in
    record {
      least = omega (arith, ltb-false n 11 (or_left _ (ltb 521 n) (or_left size _ e)));
      most = ltb-false 521 n (or_right (ltb n 11) (ltb 521 n) (or_left size _ e));
      odd = omega arith;
    }

module _ (t : List ℕ) where
  pub is_empty : length t ≡ 0 → refused (Err NoColon) ≡ line_of_text t
  unfolding line_of_text
  is_empty e = rw (eq-eqb (length t) 0 e)

  pub is_no_colon : (get_or t 0 0 ≡ 58 → ⊥) → refused (Err NoColon) ≡ line_of_text t
  unfolding line_of_text
  is_no_colon h = rw (ne_eqb (get_or t 0 0) 58 h, or-true (eqb (length t) 0))

  module _ (some : length t ≡ 0 → ⊥) (colon : get_or t 0 0 ≡ 58) where
    pub is_bad_shape : bad_shape (length t) ≡ true → refused (Err BadShape) ≡ line_of_text t
    unfolding line_of_text
    is_bad_shape e = rw (ne_eqb (length t) 0 some, eq-eqb (get_or t 0 0) 58 colon, e)

    module _ (shape : bad_shape (length t) ≡ false) where
      pub is_bad_digit : {p : ℕ} → p ≡ 1 + first_bad (drop 1 t) → all_digits (drop 1 t) ≡ false → refused (Err (BadDigit p)) ≡ line_of_text t
      unfolding line_of_text
      is_bad_digit q e = rw (q, ne_eqb (length t) 0 some, eq-eqb (get_or t 0 0) 58 colon, shape, e)

      pub is_bytes : all_digits (drop 1 t) ≡ true → line_of_bytes (length t) (bytes_of (drop 1 t)) ≡ line_of_text t
      unfolding line_of_text
      is_bytes e = rw (ne_eqb (length t) 0 some, eq-eqb (get_or t 0 0) 58 colon, shape, e)
