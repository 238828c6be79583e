-- Rows 22 to 25, of a text whose characters are decoded into 37 bytes. Assumes nothing.
use Rattle.std.proofs.Common.{◌≡◌, ℕ, ◌+◌, ◌-◌, ◌*◌, ◌/◌, ◌%◌, ◌<◌, ◌≤◌, true, false, ltb, List, length, get_or, take, drop, sym, ap, ◌∙◌, arith, length-drop, take_all, get_or-take, ltb-false, ltb-true}
use Rattle.std.specs.Prelude.{Err}
use Rattle.laws.proofs.Tests.{split}
use Rattle.ihex_record.specs.declared.LineError.TheVariants.{BadDigit}
use Rattle.ihex_record.specs.Record.{digit_of, all_digits, first_bad, bytes_of, len_of, bad_shape, refused, line_of_bytes, line_of_text}
use Rattle.hex_digits.proofs.Digits.{length_bytes, Decoding, rest}
use Rattle.hex_digits.proofs.FirstBad.{bad_some, bad_all}
use Rattle.ihex_record.proofs.Checks.{is_too_long, is_bad_length, shaped, is_bad_digit, is_bytes}
use Rattle.ihex_record.specs.Bytes.{line_in}
use Rattle.ihex_record.proofs.record_bytes.InBytes.{in_bytes}

-- the first 37 bytes decide
first_37 : (n : ℕ) (b : List ℕ) → n ≡ 1 + 2 * length b → line_of_bytes n (take 37 b) ≡ line_of_bytes n b
first_37 n b e =
    split (ltb 37 (length b))
    (λ y.
    let h : 37 < length b = ltb-true 37 (length b) y in
    let f : len_of (take 37 b) ≡ len_of b = get_or-take 37 b 0 0 (omega arith) in
    split (ltb 32 (len_of b))
    (λ t.
    let g : 32 < len_of b = ltb-true 32 (len_of b) t in
    sym (is_too_long n (take 37 b) (rw f g)) ∙ is_too_long n b g)
    (λ t.
    let g : len_of b ≤ 32 = ltb-false 32 (len_of b) t in
    sym (is_bad_length n (take 37 b) (rw f g) (λ q. omega arith)) ∙ is_bad_length n b g (λ q. omega arith)))
    (λ y. ap (line_of_bytes n) (take_all 37 b (ltb-false 37 (length b) y)))

module _ (t : List ℕ) (some : length t ≡ 0 → ⊥) (colon : get_or t 0 0 ≡ 58) (shape : bad_shape (length t) ≡ false) where
  -- as the code lends the characters, and finds the first bad one
  module _ {b : ℕ} (found : b ≡ first_bad (take (length t - 1) (drop 1 t))) where
    found_in : b ≡ first_bad (drop 1 t)
    found_in = found ∙ ap first_bad (rest 1 t)

    pub is_bad_at : b < length t - 1 → refused (Err (BadDigit (b + 1))) ≡ line_of_text t
    is_bad_at h =
        is_bad_digit t some colon shape (omega (arith, found_in)) (bad_some (drop 1 t) (omega (arith, found_in, length-drop 1 t)))

    pub is_all_good : length t - 1 ≤ b → all_digits (drop 1 t) ≡ true
    is_all_good h = bad_all (drop 1 t) (omega (arith, found_in, length-drop 1 t))

  pub is_decoded : (out : List ℕ) → all_digits (drop 1 t) ≡ true → length out ≡ 37 → Decoding (drop 1 t) out → line_in (length t) out ≡ line_of_text t
  is_decoded out e n d =
      let o : length t % 2 ≡ 1 = (shaped (length t) shape).odd in
      let m : 10 < length t = (shaped (length t) shape).least in
      let h : length (drop 1 t) / 2 ≡ length t / 2 = simp length-drop (omega arith) in
      let f : take (length t / 2) out ≡ take 37 (bytes_of (drop 1 t)) = rw (h, n) at d in
      in_bytes (length t) out m
      ∙ rw f (first_37 (length t) (bytes_of (drop 1 t)) (omega (arith, length_bytes digit_of (drop 1 t), length-drop 1 t)))
      ∙ is_bytes t some colon shape e
