-- Rows 20 to 25 in numbers. Assumes nothing.
use Prim.Native.Nat.{ℕ, zero, suc, ◌+◌, ◌-◌, ◌*◌, ◌%◌, ◌<◌, ◌≤◌}
use mathlib.Core.Path.{◌≡◌, refl, sym, ap, subst, ◌∙◌}
use mathlib.Core.Logic.{◌≢◌, ◌⊎◌, inl, inr, ⊎_elim}
use mathlib.Core.Bool.{true, false, ◌&&◌, ◌||◌}
use mathlib.Core.List.{List, [], ◌∷◌, ◌++◌, append_assoc}
use native.Mathlib.Omega.{arith}
use lib.Dec.{ltb, leb, eqb}
use lib.ListN.{length, get_or, replicate, length-append, length-replicate, get_or-append, get_or-eq_default, get_or-replicate}
use lib.Seq.{take-append_seam, get_or-append_seam, get_or-append-add, take-length}
use borrow.Author.Tests.{lt-ltb, le-ltb, le-leb, lt-leb, ne_eqb, eqb-true, eqb-false, ltb-true, ltb-false, leb-true}
use Rattle.laws.proofs.Tests.{split, both, clash, is_false, or_left, or_right}
use Rattle.laws.proofs.TabLaws.{is_tab}
use Rattle.ihex_record.specs.declared.Line.{Line}
use Rattle.std.specs.Prelude.{Err}
use Rattle.ihex_record.specs.declared.LineError.TheVariants.{NoColon, BadShape, BadDigit, TooLong, BadLength, BadSum}
use Rattle.ihex_record.specs.Record.{ParseResult, text_len, text_of, digit_of, all_digits, first_bad, bytes_of, data32, total, bad_shape, line_of_bytes, line_of_text, read_of, all_by, first_by, bytes_by}
use Rattle.ihex_record.proofs.Endings.{text_whole, text_lf, text_crlf}
use Rattle.ihex_record.proofs.Checks.{is_no_colon, is_bad_shape, is_bad_digit, is_bytes, is_too_long, is_bad_length, is_bad_sum, is_good_lem}
use Rattle.uhex_claims.specs.Rows.{Digit, decimal, upper, lower, Bytes, no_byte, byte, TextOf, unended, ended_lf, ended_crlf, sum_of, Shaped, Says, row_20, row_21, row_22, row_23, row_24, row_25, good, LineIsRead, EveryLineSays}

-- ---- digits

digit_is : (c v : ℕ) → Digit c v → (digit_of c ≡ v) × (v < 16)
unfolding digit_of
digit_is c v (decimal h e) = (rw (e, le-leb 48 (48 + v) (omega arith), le-leb (48 + v) 57 (omega arith)) (omega arith), omega arith)
digit_is c v (upper h l e) =
    (rw (e, le-leb 48 (55 + v) (omega arith), lt-leb (55 + v) 57 (omega arith), le-leb 65 (55 + v) (omega arith), le-leb (55 + v) 70 (omega arith)) (omega arith), l)
digit_is c v (lower h l e) =
    (rw (e, le-leb 48 (87 + v) (omega arith), lt-leb (87 + v) 57 (omega arith), le-leb 65 (87 + v) (omega arith), lt-leb (87 + v) 70 (omega arith), le-leb 97 (87 + v) (omega arith), le-leb (87 + v) 102 (omega arith)) (omega arith), l)

-- what says no digit is one for no value
is_digit_lem : (c : ℕ) → digit_of c < 16 → Digit c (digit_of c)
unfolding digit_of
is_digit_lem c h =
    split (leb 48 c && leb c 57)
    (λ y. rw y (decimal (omega (arith, low48 y, high57 y)) (omega (arith, low48 y))))
    (λ n.
    split (leb 65 c && leb c 70)
    (λ y. rw (n, y) (upper (omega (arith, l65 y)) (omega (arith, h70 y)) (omega (arith, l65 y))))
    (λ m.
    split (leb 97 c && leb c 102)
    (λ y. rw (n, m, y) (lower (omega (arith, l97 y)) (omega (arith, h102 y)) (omega (arith, l97 y))))
    (λ o. let z : ◌<◌ 16 16 = rw (n, m, o) at h in absurd (omega arith))))
  where
    low48 : leb 48 c && leb c 57 ≡ true → 48 ≤ c
    low48 y = leb-true 48 c (Rattle.laws.proofs.Tests.and_left (leb 48 c) (leb c 57) y)

    high57 : leb 48 c && leb c 57 ≡ true → c ≤ 57
    high57 y = leb-true c 57 (Rattle.laws.proofs.Tests.and_right (leb 48 c) (leb c 57) y)

    l65 : leb 65 c && leb c 70 ≡ true → 65 ≤ c
    l65 y = leb-true 65 c (Rattle.laws.proofs.Tests.and_left (leb 65 c) (leb c 70) y)

    h70 : leb 65 c && leb c 70 ≡ true → c ≤ 70
    h70 y = leb-true c 70 (Rattle.laws.proofs.Tests.and_right (leb 65 c) (leb c 70) y)

    l97 : leb 97 c && leb c 102 ≡ true → 97 ≤ c
    l97 y = leb-true 97 c (Rattle.laws.proofs.Tests.and_left (leb 97 c) (leb c 102) y)

    h102 : leb 97 c && leb c 102 ≡ true → c ≤ 102
    h102 y = leb-true c 102 (Rattle.laws.proofs.Tests.and_right (leb 97 c) (leb c 102) y)

-- ---- bytes

bytes_are : {cs bs : List ℕ} → Bytes cs bs → (all_digits cs ≡ true) × (bytes_of cs ≡ bs)
unfolding all_by bytes_by
bytes_are no_byte = (refl, refl)
bytes_are (byte {c} {d} {h} {l} {cs} {bs} p q w) =
    let x = digit_is c h p in
    let y = digit_is d l q in
    let r = bytes_are w in
    (rw (x.0, y.0, lt-ltb h 16 x.1, lt-ltb l 16 y.1) r.0, rw (x.0, y.0, r.1) (ap (λ (n : ℕ). n ∷ bs) (omega (arith, x.1, y.1))))

sum_is : (l : List ℕ) → total l ≡ sum_of l
unfolding total sum_of
sum_is [] = refl
sum_is (b ∷ l) = rw (sum_is l)

-- ---- shape

shape_good : (n : ℕ) → Shaped n → bad_shape n ≡ false
shape_good n s =
    let l = s.least in
    let m = s.most in
    let o = s.odd in
    rw (le-ltb n 11 l, le-ltb 521 n m, ne_eqb (n % 2) 0 (omega arith))

shape_bad : (n : ℕ) → (Shaped n → ⊥) → bad_shape n ≡ true
shape_bad n h =
    split (bad_shape n) (λ y. y)
    (λ z.
    let a = or_left (ltb n 11 || ltb 521 n) (eqb (n % 2) 0) z in
    let o = eqb-false (n % 2) 0 (or_right (ltb n 11 || ltb 521 n) (eqb (n % 2) 0) z) in
    absurd (h (record { least = ltb-false n 11 (or_left (ltb n 11) (ltb 521 n) a); most = ltb-false 521 n (or_right (ltb n 11) (ltb 521 n) a); odd = omega (arith, o) })))

-- ---- the first bad character

bad_digit : (c : ℕ) → ((v : ℕ) → Digit c v → ⊥) → ltb (digit_of c) 16 ≡ false
bad_digit c h = is_false _ (λ y. h (digit_of c) (is_digit_lem c (ltb-true (digit_of c) 16 y)))

good_digit : (c v : ℕ) → Digit c v → ltb (digit_of c) 16 ≡ true
good_digit c v w = let x = digit_is c v w in rw x.0 (lt-ltb v 16 x.1)

first_is : (cs : List ℕ) (p : ℕ) → p < length cs → ((v : ℕ) → Digit (get_or cs p 0) v → ⊥) → ((i : ℕ) → i < p → (v : ℕ) × Digit (get_or cs i 0) v)
    → (first_bad cs ≡ p) × (all_digits cs ≡ false)
unfolding first_by all_by
first_is [] p l b g = absurd (omega arith)
first_is (c ∷ cs) zero l b g = let z = bad_digit c b in (rw z, rw z)
first_is (c ∷ cs) (suc p) l b g =
    let y = good_digit c (g 0 (omega arith)).0 (g 0 (omega arith)).1 in
    let r = first_is cs p (omega arith) b (λ i m. g (suc i) (omega arith)) in
    (rw (y, r.0), rw (y, r.1))

-- ---- a text

bytes_length : {cs bs : List ℕ} → Bytes cs bs → length cs ≡ 2 * length bs
bytes_length no_byte = refl
bytes_length (byte p q w) = let h = bytes_length w in omega arith

says_line : {t : List ℕ} {x : ParseResult} {d : List ℕ} → Says t x d → line_of_text t ≡ record { parsed = x; «data» = data32 d }
says_line {t} (row_20 h) = sym (is_no_colon t h)
says_line (row_21 {cs} h) = sym (is_bad_shape (58 ∷ cs) (λ q. omega arith) refl (shape_bad (length (58 ∷ cs)) h))
says_line (row_22 {cs} p s l b g) =
    let f = first_is cs p l b g in
    sym (is_bad_digit (58 ∷ cs) (λ q. omega arith) refl (shape_good (length (58 ∷ cs)) s) (ap (λ (n : ℕ). 1 + n) (sym f.0)) f.1)
says_line (row_23 {cs} {bs} {n} s w h) =
    let r = bytes_are w in
    sym (is_bytes (58 ∷ cs) (λ q. omega arith) refl (shape_good (length (58 ∷ cs)) s) r.0)
    ∙ ap (line_of_bytes (length (58 ∷ cs))) r.1 ∙ sym (is_too_long (length (58 ∷ cs)) (n ∷ bs) h)
says_line (row_24 {cs} {bs} {n} s w m h) =
    let r = bytes_are w in
    sym (is_bytes (58 ∷ cs) (λ q. omega arith) refl (shape_good (length (58 ∷ cs)) s) r.0)
    ∙ ap (line_of_bytes (length (58 ∷ cs))) r.1 ∙ sym (is_bad_length (length (58 ∷ cs)) (n ∷ bs) m h)
says_line (row_25 {cs} {bs} {n} s w m e h) =
    let r = bytes_are w in
    sym (is_bytes (58 ∷ cs) (λ q. omega arith) refl (shape_good (length (58 ∷ cs)) s) r.0)
    ∙ ap (line_of_bytes (length (58 ∷ cs))) r.1 ∙ sym (is_bad_sum (length (58 ∷ cs)) (n ∷ bs) m e (rw (sum_is (n ∷ bs)) h))
says_line (good {cs} {d} {high} {low} {kind} check w m z) =
    let b : List ℕ = length d ∷ high ∷ low ∷ kind ∷ d ++ (check ∷ []) in
    let r = bytes_are w in
    let k : length cs ≡ 10 + 2 * length d = omega (arith, bytes_length w, length-append d (check ∷ [])) in
    let s : Shaped (length (58 ∷ cs)) = record { least = omega arith; most = omega arith; odd = omega arith } in
    sym (is_bytes (58 ∷ cs) (λ q. omega arith) refl (shape_good (length (58 ∷ cs)) s) r.0)
    ∙ ap (line_of_bytes (length (58 ∷ cs))) r.1
    ∙ sym (is_good_lem (length (58 ∷ cs)) b m (omega arith) (rw (sum_is b) z))
    ∙ rw (take-append_seam d (check ∷ []))

-- ---- its ending

text_is : {l t : List ℕ} → TextOf l t → text_of l ≡ t
unfolding text_of
text_is {l} (unended h) = rw (← (text_whole l h)) (take-length l)
text_is (ended_lf {t} h) =
    let l = t ++ (10 ∷ []) in
    let a : length l - 1 ≡ length t = omega (arith, length-append t (10 ∷ [])) in
    let last : get_or l (length l - 1) 0 ≡ 10 = rw a (get_or-append_seam t 10 [] 0) in
    let e : length t ≡ text_len l = sym a ∙ text_lf l last (omega (arith, length-append t (10 ∷ []))) (before t h) in
    rw (← e) (take-append_seam t (10 ∷ []))
  where
    before : (t : List ℕ) → get_or t (length t - 1) 0 ≢ 13 → get_or (t ++ (10 ∷ [])) (length (t ++ (10 ∷ [])) - 2) 0 ≢ 13
    before [] h q = omega arith
    before (c ∷ t) h q =
        let b : length ((c ∷ t) ++ (10 ∷ [])) - 2 ≡ length (c ∷ t) - 1 = omega (arith, length-append (c ∷ t) (10 ∷ [])) in
        h (sym (rw b (get_or-append (c ∷ t) (10 ∷ []) 0 (length (c ∷ t) - 1) (omega arith))) ∙ q)
text_is (ended_crlf {t}) =
    let l = t ++ (13 ∷ 10 ∷ []) in
    let a : length l - 2 ≡ length t = omega (arith, length-append t (13 ∷ 10 ∷ [])) in
    let b : length l - 1 ≡ length t + 1 = omega (arith, length-append t (13 ∷ 10 ∷ [])) in
    let last : get_or l (length l - 1) 0 ≡ 10 = rw b (get_or-append-add t (13 ∷ 10 ∷ []) 1 0) in
    let e : length t ≡ text_len l = sym a ∙ text_crlf l last (omega (arith, length-append t (13 ∷ 10 ∷ []))) (rw a (get_or-append_seam t 13 (10 ∷ []) 0)) in
    rw (← e) (take-append_seam t (13 ∷ 10 ∷ []))

-- ---- its data

filled : (d : List ℕ) → length d ≤ 32 → d ++ replicate (32 - length d) 0 ≡ data32 d
unfolding data32
filled d h =
    let n = length-replicate {A = ℕ} (32 - length d) 0 in
    is_tab (d ++ replicate (32 - length d) 0) 32 (λ i. get_or d i 0) (simp length-append (omega arith))
    (λ j l.
    split (ltb j (length d))
    (λ y. get_or-append d (replicate (32 - length d) 0) 0 j (ltb-true j (length d) y))
    (λ y.
    let m : length d ≤ j = ltb-false j (length d) y in
    let f : length d + (j - length d) ≡ j = omega arith in
    let g : get_or (d ++ replicate (32 - length d) 0) j 0 ≡ get_or (replicate (32 - length d) 0) (j - length d) 0 = rw f at (get_or-append-add d (replicate (32 - length d) 0) (j - length d) 0) in
    g ∙ get_or-replicate (32 - length d) (j - length d) 0 0 (omega arith) ∙ sym (get_or-eq_default d 0 m)))

short : {t : List ℕ} {x : ParseResult} {d : List ℕ} → Says t x d → length d ≤ 32
short (row_20 h) = omega arith
short (row_21 h) = omega arith
short (row_22 p s l b g) = omega arith
short (row_23 s w h) = omega arith
short (row_24 s w m h) = omega arith
short (row_25 s w m e h) = omega arith
short (good check w m z) = m

pub line_is_read : LineIsRead
unfolding LineIsRead read_of
line_is_read l t x d e s =
    let q : line_of_text (text_of l) ≡ record { parsed = x; «data» = data32 d } = ap line_of_text (text_is e) ∙ says_line s in
    (ap (λ (y : Line). y.parsed) q, ap (λ (y : Line). y.«data») q ∙ sym (filled d (short s)))

-- ---- every line says something

abbrev IsDigit : ℕ → Type 0
IsDigit c = (v : ℕ) × Digit c v

digit_or : (c : ℕ) → IsDigit c ⊎ ((v : ℕ) → Digit c v → ⊥)
digit_or c =
    split (ltb (digit_of c) 16)
    (λ y. inl (digit_of c, is_digit_lem c (ltb-true (digit_of c) 16 y)))
    (λ z. inr (λ v w. clash (ltb (digit_of c) 16) (good_digit c v w) z))

-- the first bad character of some
record FirstBad (cs : List ℕ) : Type 0 where
  place : ℕ
  within : place < length cs
  bad : (v : ℕ) → Digit (get_or cs place 0) v → ⊥
  first : (i : ℕ) → i < place → IsDigit (get_or cs i 0)

digits_or : (cs : List ℕ) → ((i : ℕ) → i < length cs → IsDigit (get_or cs i 0)) ⊎ FirstBad cs
digits_or [] = inl (λ i l. absurd (omega arith))
digits_or (c ∷ cs) =
    ⊎_elim
    (λ (h : IsDigit c).
    ⊎_elim
    (λ (all : (i : ℕ) → i < length cs → IsDigit (get_or cs i 0)). inl (next h all))
    (λ (b : FirstBad cs). inr (record { place = suc b.place; within = omega (arith, b.within); bad = b.bad; first = later h b }))
    (digits_or cs))
    (λ (n : (v : ℕ) → Digit c v → ⊥). inr (record { place = 0; within = omega arith; bad = n; first = λ i l. absurd (omega arith) }))
    (digit_or c)
  where
    next : IsDigit c → ((i : ℕ) → i < length cs → IsDigit (get_or cs i 0)) → (i : ℕ) → i < length (c ∷ cs) → IsDigit (get_or (c ∷ cs) i 0)
    next h all zero l = h
    next h all (suc i) l = all i (omega arith)

    later : IsDigit c → (b : FirstBad cs) → (i : ℕ) → i < suc b.place → IsDigit (get_or (c ∷ cs) i 0)
    later h b zero l = h
    later h b (suc i) l = b.first i (omega arith)

pairs : (cs : List ℕ) → length cs % 2 ≡ 0 → ((i : ℕ) → i < length cs → IsDigit (get_or cs i 0)) → (bs : List ℕ) × Bytes cs bs
pairs [] e h = ([], no_byte)
pairs (c ∷ []) e h = let z : ◌≡◌ {A = ℕ} 1 0 = e in absurd (omega arith)
pairs (c ∷ d ∷ cs) e h =
    let x = h 0 (omega arith) in
    let y = h 1 (omega arith) in
    let r = pairs cs (omega arith) (λ i l. h (suc (suc i)) (omega arith)) in
    ((16 * x.0 + y.0) ∷ r.0, byte x.1 y.1 r.1)

-- a list and its last element
last_of : (l : List ℕ) → 1 ≤ length l → (t : List ℕ) × (c : ℕ) × (l ≡ t ++ (c ∷ [])) × (length l ≡ suc (length t)) × (get_or l (length l - 1) 0 ≡ c)
last_of [] h = absurd (omega arith)
last_of (c ∷ []) h = ([], c, refl, refl, refl)
last_of (c ∷ d ∷ l) h =
    let r = last_of (d ∷ l) (omega arith) in
    let n : length (c ∷ d ∷ l) - 1 ≡ suc (length (d ∷ l) - 1) = omega arith in
    (c ∷ r.0, r.1, ap (λ (z : List ℕ). c ∷ z) r.2, omega (arith, r.3), rw n r.4)

text_of_lem : (l : List ℕ) → (t : List ℕ) × TextOf l t
text_of_lem l =
    split (eqb (get_or l (length l - 1) 0) 10)
    (λ y. ended l (eqb-true (get_or l (length l - 1) 0) 10 y))
    (λ z. (l, unended (eqb-false (get_or l (length l - 1) 0) 10 z)))
  where
    before : (l t : List ℕ) → l ≡ t ++ (10 ∷ []) → (t : List ℕ) × TextOf l t
    before l t e =
        split (eqb (get_or t (length t - 1) 0) 13)
        (λ y.
        let q = eqb-true (get_or t (length t - 1) 0) 13 y in
        let r = last_of t (some t q) in
        let f : l ≡ r.0 ++ (13 ∷ 10 ∷ []) =
        e ∙ ap (λ (z : List ℕ). z ++ (10 ∷ [])) (r.2 ∙ ap (λ (c : ℕ). r.0 ++ (c ∷ [])) (sym r.4 ∙ q)) ∙ append_assoc r.0 (13 ∷ []) (10 ∷ []) in
        (r.0, subst (λ (z : List ℕ). TextOf z r.0) (sym f) ended_crlf))
        (λ z. (t, subst (λ (u : List ℕ). TextOf u t) (sym e) (ended_lf (eqb-false (get_or t (length t - 1) 0) 13 z))))
      where
        some : (t : List ℕ) → get_or t (length t - 1) 0 ≡ 13 → 1 ≤ length t
        some [] q = absurd (omega arith)
        some (c ∷ t) q = omega arith

    ended : (l : List ℕ) → get_or l (length l - 1) 0 ≡ 10 → (t : List ℕ) × TextOf l t
    ended [] q = absurd (omega arith)
    ended (c ∷ l) q = let r = last_of (c ∷ l) (omega arith) in before (c ∷ l) r.0 (r.2 ∙ ap (λ (d : ℕ). r.0 ++ (d ∷ [])) (sym r.4 ∙ q))

abbrev SaysSome : List ℕ → Type 0
SaysSome t = (x : ParseResult) × (d : List ℕ) × Says t x d

-- the bytes of a record, taken apart
says_bytes : (cs bs : List ℕ) → Shaped (length (58 ∷ cs)) → Bytes cs bs → SaysSome (58 ∷ cs)
says_bytes cs [] s w = let k = bytes_length w in let l = s.least in absurd (omega arith)
says_bytes cs (n ∷ bs) s w =
    split (ltb 32 n)
    (λ y. (Err TooLong, [], row_23 s w (ltb-true 32 n y)))
    (λ z.
    let m = ltb-false 32 n z in
    split (eqb (length (58 ∷ cs)) (11 + 2 * n))
    (λ y.
    let e = eqb-true (length (58 ∷ cs)) (11 + 2 * n) y in
    split (eqb (sum_of (n ∷ bs) % 256) 0)
    (λ u. whole bs w (omega (arith, bytes_length w, e)) m (eqb-true _ 0 u))
    (λ u. (Err BadSum, [], row_25 s w m e (eqb-false _ 0 u))))
    (λ u. (Err BadLength, [], row_24 s w m (eqb-false (length (58 ∷ cs)) (11 + 2 * n) u))))
  where
    whole : (bs : List ℕ) → Bytes cs (n ∷ bs) → length bs ≡ n + 4 → n ≤ 32 → sum_of (n ∷ bs) % 256 ≡ 0 → SaysSome (58 ∷ cs)
    whole [] w e m z = absurd (omega arith)
    whole (high ∷ []) w e m z = absurd (omega arith)
    whole (high ∷ low ∷ []) w e m z = absurd (omega arith)
    whole (high ∷ low ∷ kind ∷ rest) w e m z =
        let r = last_of rest (omega arith) in
        let d = r.0 in
        let k : n ≡ length d = omega (arith, r.3) in
        let f : ◌≡◌ {A = List ℕ} (n ∷ high ∷ low ∷ kind ∷ rest) (length d ∷ high ∷ low ∷ kind ∷ d ++ (r.1 ∷ [])) =
        ap (λ (q : List ℕ). n ∷ high ∷ low ∷ kind ∷ q) r.2 ∙ ap (λ (q : ℕ). q ∷ high ∷ low ∷ kind ∷ d ++ (r.1 ∷ [])) k in
        (_, d, good {d = d} r.1 (subst (λ (q : List ℕ). Bytes cs q) f w) (omega (arith, k)) (subst (λ (q : List ℕ). sum_of q % 256 ≡ 0) f z))

says_some : (t : List ℕ) → SaysSome t
says_some [] = (Err NoColon, [], row_20 {t = []} (λ e. omega arith))
says_some (c ∷ cs) =
    split (eqb c 58)
    (λ y. subst (λ (q : ℕ). SaysSome (q ∷ cs)) (sym (eqb-true c 58 y)) after)
    (λ z. (Err NoColon, [], row_20 {t = c ∷ cs} (eqb-false c 58 z)))
  where
    shaped : (n : ℕ) → bad_shape n ≡ false → Shaped n
    shaped n z =
        let a = or_left (ltb n 11 || ltb 521 n) (eqb (n % 2) 0) z in
        let o = eqb-false (n % 2) 0 (or_right (ltb n 11 || ltb 521 n) (eqb (n % 2) 0) z) in
        record { least = ltb-false n 11 (or_left (ltb n 11) (ltb 521 n) a); most = ltb-false 521 n (or_right (ltb n 11) (ltb 521 n) a); odd = omega (arith, o) }

    after : SaysSome (58 ∷ cs)
    after =
        split (bad_shape (length (58 ∷ cs)))
        (λ y. (Err BadShape, [], row_21 (λ s. clash (bad_shape (length (58 ∷ cs))) y (shape_good (length (58 ∷ cs)) s))))
        (λ z.
        let s = shaped (length (58 ∷ cs)) z in
        ⊎_elim
        (λ (all : (i : ℕ) → i < length cs → IsDigit (get_or cs i 0)). let r = pairs cs (omega (arith, s.odd)) all in says_bytes cs r.0 s r.1)
        (λ (b : FirstBad cs). (Err (BadDigit (1 + b.place)), [], row_22 b.place s b.within b.bad b.first))
        (digits_or cs))

pub every_line_says : EveryLineSays
unfolding EveryLineSays
every_line_says l = let e = text_of_lem l in let s = says_some e.0 in (e.0, s.0, s.1, e.1, s.2)
