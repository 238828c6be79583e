-- A record that is written reads back. Assumes nothing.
use Rattle.std.proofs.Common.{◌≡◌, ℕ, zero, suc, ◌+◌, ◌-◌, ◌*◌, ◌/◌, ◌%◌, ◌<◌, ◌≤◌, true, false, not, eqb, ltb, List, [], ◌∷◌, ◌++◌, length, get_or, sym, refl, ap, ◌∙◌, append-nil, arith, length-append, get_or-append-add, le-ltb, lt-ltb, ne_eqb, eqb-true}
use lib.ListN.{get_or-append}
use lib.Seq.{take-append_seam, get_or-append_seam}
use borrow.Author.Tests.{not-false}
use Rattle.laws.specs.Sets.{Set, any}
use Rattle.laws.proofs.Laws.{any_all}
use Rattle.laws.proofs.Tests.{split, both}
use Rattle.std.specs.Prelude.{Ok}
use Rattle.ihex_record.specs.Record.{text_len, text_of, digit_of, all_digits, bytes_of, data32, total, bad_shape, line_of_bytes, line_of_text, read_of, all_by, bytes_by}
use Rattle.ihex_record.specs.Write.{digit_text, bytes_text, field_bytes, checksum, record_text, Ending, none, lf, crlf, Bytes, ReadsBack}
use Rattle.ihex_record.proofs.Endings.{text_whole, text_lf, text_crlf}
use Rattle.ihex_record.proofs.Sums.{total_append, total_one}
use Rattle.ihex_record.proofs.Checks.{is_bytes, is_good_lem}

-- ---- digits

wrong : Set
wrong n = not (eqb (digit_of (digit_text n)) n)

digit_text_lem : (n : ℕ) → n < 16 → digit_of (digit_text n) ≡ n
unfolding wrong digit_of any
digit_text_lem n h = eqb-true (digit_of (digit_text n)) n (not-false _ (any_all wrong 16 refl n h))

digit_high : (n : ℕ) → 48 ≤ digit_text n
digit_high n = split (ltb n 10) (λ y. rw y (omega arith)) (λ y. rw y (omega arith))

pub length_text : (w : List ℕ) → length (bytes_text w) ≡ 2 * length w
unfolding bytes_text
length_text [] = refl
length_text (b ∷ w) = omega (arith, length_text w)

pub text_high : (w : List ℕ) (i : ℕ) → i < 2 * length w → 48 ≤ get_or (bytes_text w) i 0
unfolding bytes_text
text_high [] i h = absurd (omega arith)
text_high (b ∷ w) zero h = digit_high (b / 16)
text_high (b ∷ w) (suc zero) h = digit_high (b % 16)
text_high (b ∷ w) (suc (suc i)) h = text_high w i (omega arith)

record Back (w : List ℕ) : Type 0 where
  digits : all_digits (bytes_text w) ≡ true
  bytes : bytes_of (bytes_text w) ≡ w

back : (w : List ℕ) → Bytes w → Back w
unfolding bytes_text bytes_by all_by
back [] h = record { digits = refl; bytes = refl }
back (b ∷ w) h =
    let small : b < 256 = h 0 (omega arith) in
    let high : digit_of (digit_text (b / 16)) ≡ b / 16 = digit_text_lem (b / 16) (omega arith) in
    let low : digit_of (digit_text (b % 16)) ≡ b % 16 = digit_text_lem (b % 16) (omega arith) in
    let r = back w (λ i l. h (suc i) (omega arith)) in
    record {
      digits = rw (high, low) (both (lt-ltb (b / 16) 16 (omega arith)) (both (lt-ltb (b % 16) 16 (omega arith)) r.digits));
      bytes = rw (high, low, r.bytes) (ap (λ (x : ℕ). x ∷ w) (omega arith));
    }

-- ---- endings

cut : (t e : List ℕ) → length t ≡ text_len (t ++ e) → text_of (t ++ e) ≡ t
unfolding text_of
cut t e h = rw (← h) (take-append_seam t e)

ended : (t e : List ℕ) → 0 < length t → 48 ≤ get_or t (length t - 1) 0 → Ending e → text_of (t ++ e) ≡ t
ended t e n h none = cut t [] (rw (append-nil t) (text_whole t (λ q. omega arith)))
ended t e n h lf =
    let l = t ++ (10 ∷ []) in
    let a : length l - 1 ≡ length t = omega (arith, length-append t (10 ∷ [])) in
    let b : length l - 2 ≡ length t - 1 = omega arith in
    let last : get_or l (length l - 1) 0 ≡ 10 = rw a (get_or-append_seam t 10 [] 0) in
    let f : get_or l (length l - 2) 0 ≡ get_or t (length t - 1) 0 = rw b (get_or-append t (10 ∷ []) 0 (length t - 1) (omega arith)) in
    cut t (10 ∷ []) (sym a ∙ text_lf l last (omega arith) (λ q. omega arith))
ended t e n h crlf =
    let l = t ++ (13 ∷ 10 ∷ []) in
    let a : length l - 2 ≡ length t = omega (arith, length-append t (13 ∷ 10 ∷ [])) in
    let b : length l - 1 ≡ length t + 1 = omega (arith, length-append t (13 ∷ 10 ∷ [])) in
    let last : get_or l (length l - 1) 0 ≡ 10 = rw b (get_or-append-add t (13 ∷ 10 ∷ []) 1 0) in
    cut t (13 ∷ 10 ∷ []) (sym a ∙ text_crlf l last (omega arith) (rw a (get_or-append_seam t 13 (10 ∷ []) 0)))

-- ---- the bytes of a record

bytes_cons : (b : ℕ) (l : List ℕ) → b < 256 → Bytes l → Bytes (b ∷ l)
bytes_cons b l h hs zero n = h
bytes_cons b l h hs (suc i) n = hs i (omega arith)

pub bytes_append : (l r : List ℕ) → Bytes l → Bytes r → Bytes (l ++ r)
bytes_append [] r h g = g
bytes_append (b ∷ l) r h g =
    bytes_cons b (l ++ r) (h 0 (omega arith)) (bytes_append l r (λ i n. h (suc i) (omega arith)) g)

sums : (b : List ℕ) → total (b ++ (checksum b ∷ [])) % 256 ≡ 0
sums b = omega (arith, total_append b (checksum b ∷ []), total_one (checksum b))

-- ---- the text of a record

module _ (kind address : ℕ) (d : List ℕ) (hk : kind < 256) (ha : address < 65536) (hd : length d ≤ 32) (hb : Bytes d) where
  abbrev fields : List ℕ
  fields = field_bytes kind address d

  abbrev whole : List ℕ
  whole = fields ++ (checksum fields ∷ [])

  long : length whole ≡ length d + 5
  long = simp length-append (omega arith)

  small : Bytes whole
  small =
      bytes_append fields (checksum fields ∷ [])
      (bytes_cons (length d) (address / 256 ∷ address % 256 ∷ kind ∷ d) (omega arith)
      (bytes_cons (address / 256) (address % 256 ∷ kind ∷ d) (omega arith)
      (bytes_cons (address % 256) (kind ∷ d) (omega arith) (bytes_cons kind d hk hb))))
      (bytes_cons (checksum fields) [] (omega arith) (λ i n. absurd (omega arith)))

  pub length_record : length (record_text kind address d) ≡ 11 + 2 * length d
  unfolding record_text
  length_record = omega (arith, length_text whole, long)

  last_high : 48 ≤ get_or (record_text kind address d) (length (record_text kind address d) - 1) 0
  unfolding record_text
  last_high =
      let e : length (record_text kind address d) - 1 ≡ suc (9 + 2 * length d) = omega (arith, length_record) in
      rw e (text_high whole (9 + 2 * length d) (omega (arith, long)))

  text_back : line_of_text (record_text kind address d) ≡ record { parsed = Ok (record { kind = kind; address = address; len = length d }); «data» = data32 d }
  unfolding record_text
  text_back =
      let t : List ℕ = 58 ∷ bytes_text whole in
      let n : length t ≡ 11 + 2 * length d = length_record in
      let r = back whole small in
      let shape : bad_shape (length t) ≡ false =
      rw (le-ltb (length t) 11 (omega arith), le-ltb 521 (length t) (omega arith), ne_eqb (length t % 2) 0 (λ q. omega arith)) in
      let a : 256 * (address / 256) + address % 256 ≡ address = omega arith in
      sym (is_bytes t (λ q. omega arith) refl shape r.digits)
      ∙ ap (line_of_bytes (length t)) r.bytes
      ∙ sym (is_good_lem (length t) whole hd n (sums fields))
      ∙ rw (a, take-append_seam d (checksum fields ∷ []))

pub reads_back : ReadsBack
unfolding read_of
reads_back kind address d e hk ha hd hb ending =
    let t = record_text kind address d in
    rw (ended t e (omega (arith, length_record kind address d hk ha hd hb)) (last_high kind address d hk ha hd hb) ending)
    (text_back kind address d hk ha hd hb)
