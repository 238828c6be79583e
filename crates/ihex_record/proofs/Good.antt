-- What holds of a line that is a good record. Assumes nothing.
use Rattle.std.proofs.Common.{◌≡◌, ℕ, zero, suc, ◌+◌, ◌*◌, ◌%◌, ◌<◌, ◌≤◌, Bool, true, false, cond, not, ltb, List, [], ◌∷◌, length, take, drop, refl, ap, arith, length-drop, length-take, ltb-false, ltb-true, eqb-true}
use Rattle.std.specs.Prelude.{Ok, Err}
use borrow.Author.Tests.{not-false}
use Rattle.laws.proofs.Tests.{and_left, and_right}
use Rattle.ihex_record.specs.declared.Line.{Line}
use Rattle.ihex_record.specs.declared.Record.{Record}
use Rattle.ihex_record.specs.declared.LineError.{LineError}
use Rattle.ihex_record.specs.declared.LineError.TheVariants.{NoColon, BadShape, BadDigit, TooLong, BadLength, BadSum}
use Rattle.ihex_record.specs.Record.{ParseResult, text_of, digit_of, is_digit, all_digits, first_bad, bytes_of, len_of, data_of, record_of, total, no_colon, bad_shape, bad_length, bad_sum, good, refused, line_of_bytes, line_of_text, read_of, error_number, parsed_number, all_by, bytes_by}
use Rattle.ihex_record.specs.Write.{Bytes}
use Rattle.hex_digits.proofs.Digits.{length_bytes}
use Rattle.ihex_record.proofs.Data32.{length_data32, data32_take}

-- a row that a good line has passed
passed : (b : Bool) (p : LineError) (x : Line) (r : Record) → 0 < error_number p → (cond b (refused (Err p)) x).parsed ≡ Ok r → (b ≡ false) × (x.parsed ≡ Ok r)
passed true p x r h e = absurd (omega (arith, ap parsed_number e))
passed false p x r h e = (refl, e)

-- the text t says the record r
pub record Says (t : List ℕ) (r : Record) : Type 0 where
  pub digits : all_digits (drop 1 t) ≡ true
  pub fits : len_of (bytes_of (drop 1 t)) ≤ 32
  pub long : length t ≡ 11 + 2 * len_of (bytes_of (drop 1 t))
  pub sums : total (bytes_of (drop 1 t)) % 256 ≡ 0
  pub fields : r ≡ record_of (bytes_of (drop 1 t))
  pub whole : line_of_text t ≡ good (bytes_of (drop 1 t))

pub says : (t : List ℕ) (r : Record) → (line_of_text t).parsed ≡ Ok r → Says t r
unfolding line_of_text line_of_bytes
says t r e =
    let b = bytes_of (drop 1 t) in
    let k = passed (no_colon t) NoColon _ r (omega arith) e in
    let s = passed (bad_shape (length t)) BadShape _ r (omega arith) k.1 in
    let d = passed (not (all_digits (drop 1 t))) (BadDigit (1 + first_bad (drop 1 t))) _ r (omega arith) s.1 in
    let f = passed (ltb 32 (len_of b)) TooLong _ r (omega arith) d.1 in
    let n = passed (bad_length (length t) b) BadLength _ r (omega arith) f.1 in
    let z = passed (bad_sum b) BadSum _ r (omega arith) n.1 in
    let g : ◌≡◌ {A = ParseResult} (Ok (record_of b)) (Ok r) = z.1 in
    record {
      digits = not-false _ d.0;
      fits = ltb-false 32 (len_of b) f.0;
      long = eqb-true _ _ (not-false _ n.0);
      sums = eqb-true _ _ (not-false _ z.0);
      fields = cc;
      whole = rw (k.0, s.0, d.0, f.0, n.0, z.0);
    }

module _ (l : List ℕ) (r : Record) (e : (read_of l).parsed ≡ Ok r) where
  said : Says (text_of l) r
  unfolding read_of
  said = says (text_of l) r e

  -- the line, by the bytes of its text
  pub good_line : read_of l ≡ good (bytes_of (drop 1 (text_of l)))
  unfolding read_of
  good_line = said.whole

  pub good_record : r ≡ record_of (bytes_of (drop 1 (text_of l)))
  good_record = said.fields

  pub good_len : r.len ≤ 32
  good_len = rw said.fields said.fits

  pub good_data_length : length (data_of (bytes_of (drop 1 (text_of l)))) ≡ r.len
  good_data_length =
      let t = text_of l in
      let n : length (bytes_of (drop 1 t)) ≡ len_of (bytes_of (drop 1 t)) + 5 =
      omega (arith, said.long, length_bytes digit_of (drop 1 t), length-drop 1 t) in
      rw said.fields (simp (length-take, length-drop) (omega arith))

  -- the used part of the 32 bytes is the record's data
  pub good_data : take r.len (read_of l).«data» ≡ data_of (bytes_of (drop 1 (text_of l)))
  good_data =
      let d = data_of (bytes_of (drop 1 (text_of l))) in
      let n : length d ≤ 32 = omega (arith, good_data_length, good_len) in
      rw (good_line, ← good_data_length) (data32_take d n)

-- the data of any line, a refusal too, has 32 bytes
either : (b : Bool) (x y : Line) → length x.«data» ≡ 32 → length y.«data» ≡ 32 → length (cond b x y).«data» ≡ 32
either true x y h k = h
either false x y h k = k

pub length_data : (l : List ℕ) → length (read_of l).«data» ≡ 32
unfolding read_of line_of_text line_of_bytes
length_data l =
    let t = text_of l in
    let b = bytes_of (drop 1 t) in
    let z = length_data32 [] in
    either (no_colon t) (refused (Err NoColon)) _ z
    (either (bad_shape (length t)) (refused (Err BadShape)) _ z
    (either (not (all_digits (drop 1 t))) (refused (Err (BadDigit (1 + first_bad (drop 1 t))))) _ z
    (either (ltb 32 (len_of b)) (refused (Err TooLong)) _ z
    (either (bad_length (length t) b) (refused (Err BadLength)) _ z
    (either (bad_sum b) (refused (Err BadSum)) (good b) z (length_data32 (data_of b)))))))

-- what two digits say is a byte
pub bytes_small : (l : List ℕ) → all_digits l ≡ true → Bytes (bytes_of l)
unfolding all_by bytes_by
bytes_small [] e i h = absurd (omega arith)
bytes_small (c ∷ []) e i h = absurd (omega arith)
bytes_small (c ∷ d ∷ l) e zero h =
    let f = and_right (is_digit c) _ e in
    omega (arith, ltb-true (digit_of c) 16 (and_left _ _ e), ltb-true (digit_of d) 16 (and_left _ _ f))
bytes_small (c ∷ d ∷ l) e (suc i) h =
    bytes_small l (and_right (is_digit d) _ (and_right (is_digit c) _ e)) i (omega arith)
