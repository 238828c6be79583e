-- The position of a bad digit: within 1 to 520, the first that is none. Assumes nothing.
use Rattle.std.proofs.Common.{◌≡◌, ℕ, ◌+◌, ◌-◌, ◌<◌, ◌≤◌, Bool, true, false, cond, ltb, List, length, get_or, drop, sym, refl, ap, ◌∙◌, arith, length-drop, get_or-drop, ltb-false, ltb-true}
use Rattle.std.specs.Prelude.{Err}
use Rattle.laws.proofs.Tests.{split, clash}
use Rattle.ihex_record.specs.declared.Line.{Line}
use Rattle.ihex_record.specs.declared.LineError.{LineError}
use Rattle.ihex_record.specs.declared.LineError.TheVariants.{NoColon, BadShape, BadDigit}
use Rattle.ihex_record.specs.Record.{ParseResult, text_of, is_digit, all_digits, first_bad, bytes_of, len_of, no_colon, bad_shape, bad_length, bad_sum, refused, line_of_bytes, line_of_text, read_of, error_number, parsed_number}
use Rattle.ihex_record.proofs.Checks.{shaped}
use Rattle.hex_digits.proofs.FirstBad.{bad_all, bad_is, bad_first}

-- a row that a line with this number has passed
other_row : (b : Bool) (q : LineError) (x : Line) (p : ℕ) → (error_number q ≡ 22 → ⊥) → (cond b (refused (Err q)) x).parsed ≡ Err (BadDigit p)
    → (b ≡ false) × (x.parsed ≡ Err (BadDigit p))
other_row true q x p h e = absurd (h (ap parsed_number e))
other_row false q x p h e = (refl, e)

no_digits : (n : ℕ) (b : List ℕ) → parsed_number (line_of_bytes n b).parsed ≡ 22 → ⊥
unfolding line_of_bytes
no_digits n b e =
    split (ltb 32 (len_of b))
    (λ y. let k : ◌≡◌ {A = ℕ} 23 22 = rw y at e in omega arith)
    (λ a.
    split (bad_length n b)
    (λ y. let k : ◌≡◌ {A = ℕ} 24 22 = rw (a, y) at e in omega arith)
    (λ c.
    split (bad_sum b)
    (λ y. let k : ◌≡◌ {A = ℕ} 25 22 = rw (a, c, y) at e in omega arith)
    (λ z. let k : ◌≡◌ {A = ℕ} 0 22 = rw (a, c, z) at e in omega arith)))

-- what is known of a text that is refused for its digits
pub record BadAt (t : List ℕ) (p : ℕ) : Type 0 where
  pub shape : bad_shape (length t) ≡ false
  pub some : all_digits (drop 1 t) ≡ false
  pub place : p ≡ 1 + first_bad (drop 1 t)

pub bad_at : (t : List ℕ) (p : ℕ) → (line_of_text t).parsed ≡ Err (BadDigit p) → BadAt t p
unfolding line_of_text
bad_at t p e =
    let k = other_row (no_colon t) NoColon _ p (λ q. omega arith) e in
    let s = other_row (bad_shape (length t)) BadShape _ p (λ q. omega arith) k.1 in
    split (all_digits (drop 1 t))
    (λ y.
    let f : (line_of_bytes (length t) (bytes_of (drop 1 t))).parsed ≡ Err (BadDigit p) = rw y at s.1 in
    absurd (no_digits (length t) (bytes_of (drop 1 t)) (ap parsed_number f)))
    (λ z.
    let f : ◌≡◌ {A = ParseResult} (Err (BadDigit (1 + first_bad (drop 1 t)))) (Err (BadDigit p)) = rw z at s.1 in
    record { shape = s.0; some = z; place = cc })

module _ (l : List ℕ) (p : ℕ) (e : (read_of l).parsed ≡ Err (BadDigit p)) where
  abbrev text : List ℕ
  text = text_of l

  at : BadAt text p
  unfolding read_of
  at = bad_at text p e

  below : first_bad (drop 1 text) < length (drop 1 text)
  below =
      split (ltb (first_bad (drop 1 text)) (length (drop 1 text)))
      (λ y. ltb-true (first_bad (drop 1 text)) (length (drop 1 text)) y)
      (λ z.
      let full : length (drop 1 text) ≤ first_bad (drop 1 text) = ltb-false (first_bad (drop 1 text)) (length (drop 1 text)) z in
      clash (all_digits (drop 1 text)) (bad_all (drop 1 text) full) at.some)

  pub bad_position_lem : (1 ≤ p) × (p ≤ 520)
  bad_position_lem =
      let most = (shaped (length text) at.shape).most in
      (omega (arith, at.place), omega (arith, at.place, below, length-drop 1 text))

  pub bad_inside : p < length text
  bad_inside = omega (arith, at.place, below, length-drop 1 text, (shaped (length text) at.shape).least)

  pub bad_there : is_digit (get_or text p 0) ≡ false
  bad_there =
      rw at.place (ap (λ (c : ℕ). is_digit c) (sym (get_or-drop 1 text (first_bad (drop 1 text)) 0)) ∙ bad_is (drop 1 text) below)

  pub good_before : (i : ℕ) → 1 ≤ i → i < p → is_digit (get_or text i 0) ≡ true
  good_before i h k =
      let n : i ≡ 1 + (i - 1) = omega arith in
      rw n (ap (λ (c : ℕ). is_digit c) (sym (get_or-drop 1 text (i - 1) 0)) ∙ bad_first (drop 1 text) (i - 1) (omega (arith, at.place)))
