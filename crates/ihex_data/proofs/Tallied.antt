-- Pieces one after the other: what is kept of them, their lines, and how long these are. Assumes nothing.
use mathlib.Core.Path.{◌≡◌, refl, sym, ap, ◌∙◌}
use mathlib.Core.Bool.{Bool, true, false, cond}
use mathlib.Core.List.{List, [], ◌∷◌, ◌++◌, flatten, append-nil, append_assoc}
use Prim.Native.Nat.{ℕ, ◌+◌, ◌-◌, ◌/◌, ◌%◌, ◌≤◌, ◌<◌}
use native.Mathlib.Omega.{arith}
use Rattle.std.specs.Prelude.{Option, Some, None, is_some as has}
use lib.Dec.{eqb, ltb}
use lib.ListN.{length, take, drop, length-append, length-take, length-drop}
use lib.Seq.{take_all}
use borrow.Author.Tests.{lt-ltb, le-ltb, ltb-true, ltb-false}
use Rattle.laws.proofs.Tests.{split, clash, eqb_same}
use Rattle.laws.specs.Stores.{Store}
use Rattle.ihex_record.specs.Write.{record_line}
use Rattle.ihex_write.specs.Put.{put_line, put_lines}
use Rattle.ihex_write.proofs.Line.{length_line}
use Rattle.ihex_write.proofs.Lines.{put_one, put_two, put_append, length_flatten}
use Rattle.ihex_file.specs.File.{is_some}
use Rattle.ihex_data.specs.declared.cuts.Uppers.{Uppers}
use Rattle.ihex_data.specs.declared.cuts.Tally.{Tally}
use Rattle.ihex_data.specs.Pieces.{piece, room_of, crosses, split_of, split_all}
use Rattle.ihex_data.specs.Lines.{word_bytes, upper_of, upper_line, upper_if, body_lines, first_upper}
use Rattle.ihex_data.specs.Tally.{uppers, fresh_tally, first_of, changes, tally_piece, tally_all, piece_lines, pieces_lines}

-- a number's two low bytes
pub low_word : (two : List ℕ) (w : ℕ) → two ≡ w % 65536 / 256 % 256 ∷ w % 65536 % 256 ∷ [] → two ≡ word_bytes w
low_word two w e =
    let high : w % 65536 / 256 % 256 ≡ w / 256 % 256 = omega arith in
    let low : w % 65536 % 256 ≡ w % 256 = omega arith in
    rw (e, high, low) refl

-- ---- one piece

pub at_most : (b : Bool) {k : ℕ} → k ≡ cond b 16 0 → k ≤ 16
at_most true e = omega arith
at_most false e = omega arith

pub length_upper : (u : ℕ) → length (upper_line u) ≡ 16
length_upper u = length_line _ _ _

pub length_piece : (kind : ℕ) (t : Tally) (u a : ℕ) (d : List ℕ) → t.len + length (flatten (piece_lines kind t u a d)) ≡ (tally_piece t u (length d)).len
unfolding piece_lines tally_piece flatten
length_piece kind t u a d =
    let l = record_line kind a d in
    let v = upper_line u in
    let n = length_line kind a d in
    let one = length-append l [] in
    split (changes t u)
    (λ y. rw y (omega (arith, length-append v (l ++ []), length_upper u)))
    (λ z. rw z (omega arith))

-- written after an 04, and without one
module _ (out : List ℕ) (kind from : ℕ) (t : Tally) (u a : ℕ) (d : List ℕ) where
  pub put_changed : {b : Bool} {one two : List ℕ} → b ≡ changes t u → b ≡ true → one ≡ put_line out from (upper_line u)
      → two ≡ put_line one (from + 16) (record_line kind a d) → two ≡ put_lines out from (piece_lines kind t u a d)
  unfolding piece_lines
  put_changed e y f g = rw (← e, y) (g ∙ rw (f, ← length_upper u) (sym (put_two out from (upper_line u) (record_line kind a d))))

  pub put_unchanged : {b : Bool} {one : List ℕ} → b ≡ changes t u → b ≡ false → one ≡ put_line out from (record_line kind a d)
      → one ≡ put_lines out from (piece_lines kind t u a d)
  unfolding piece_lines
  put_unchanged e n f = rw (← e, n) (f ∙ sym (put_one out from (record_line kind a d)))

pub piece_most : (t : Tally) (u n : ℕ) → n ≤ 32 → (tally_piece t u n).len ≤ t.len + 92
unfolding tally_piece
piece_most t u n h = omega (arith, at_most (changes t u) refl)

-- ---- pieces one after the other

abbrev after : Tally → Store → Tally
after t s = tally_piece t (upper_of s) (length s.bytes)

abbrev lines_one : ℕ → Tally → Store → List (List ℕ)
lines_one kind t s = piece_lines kind t (upper_of s) (s.address % 65536) s.bytes

-- the rest, after the first
pub put_rest : (out : List ℕ) (kind at : ℕ) (t : Tally) (s : Store) (ss : List Store)
    → put_lines (put_lines out (at + t.len) (lines_one kind t s)) (at + (after t s).len) (pieces_lines kind (after t s) ss) ≡ put_lines out (at + t.len) (pieces_lines kind t (s ∷ ss))
unfolding pieces_lines
put_rest out kind at t s ss =
    let e : at + t.len + length (flatten (lines_one kind t s)) ≡ at + (after t s).len = omega (arith, length_piece kind t (upper_of s) (s.address % 65536) s.bytes) in
    rw (← e) (sym (put_append out (at + t.len) (lines_one kind t s) (pieces_lines kind (after t s) ss)))

module _ (out : List ℕ) (kind at : ℕ) (t : Tally) where
  abbrev Puts : List Store → Tally → List ℕ → Type 0
  Puts ss r o = (r ≡ tally_all t ss) × (o ≡ put_lines out (at + t.len) (pieces_lines kind t ss))

  pub put_single : (s : Store) {r : Tally} {o : List ℕ} → r ≡ after t s → o ≡ put_lines out (at + t.len) (lines_one kind t s) → Puts (s ∷ []) r o
  unfolding tally_all pieces_lines
  put_single s e f = (e, f ∙ ap (put_lines out (at + t.len)) (sym (append-nil (lines_one kind t s))))

  pub put_pair : (s v : Store) {q r : Tally} {m o : List ℕ} → q ≡ after t s → m ≡ put_lines out (at + t.len) (lines_one kind t s)
      → r ≡ after q v → o ≡ put_lines m (at + q.len) (lines_one kind q v) → Puts (s ∷ v ∷ []) r o
  unfolding tally_all pieces_lines
  put_pair s v e f g h = (
    g ∙ rw e refl,
    h
        ∙ rw (f, e)
        (ap (put_lines (put_lines out (at + t.len) (lines_one kind t s)) (at + (after t s).len)) (sym (append-nil (lines_one kind (after t s) v)))
        ∙ put_rest out kind at t s (v ∷ [])),
  )

  -- a record's data, whole or cut in two
  pub put_whole : (a : ℕ) (d : List ℕ) {r : Tally} {o : List ℕ} → length d ≤ room_of a → r ≡ after t (piece a d)
      → o ≡ put_lines out (at + t.len) (lines_one kind t (piece a d)) → Puts (split_of (piece a d)) r o
  unfolding split_of
  put_whole a d h e f = rw (le-ltb (room_of a) (length d) h) (put_single (piece a d) e f)

  pub put_cut : (a : ℕ) (d : List ℕ) {q r : Tally} {m o : List ℕ} → room_of a < length d → q ≡ after t (piece a (take (room_of a) d))
      → m ≡ put_lines out (at + t.len) (lines_one kind t (piece a (take (room_of a) d))) → r ≡ after q (piece (a + room_of a) (drop (room_of a) d))
      → o ≡ put_lines m (at + q.len) (lines_one kind q (piece (a + room_of a) (drop (room_of a) d))) → Puts (split_of (piece a d)) r o
  unfolding split_of
  put_cut a d h e f g k =
      rw (lt-ltb (room_of a) (length d) h) (put_pair (piece a (take (room_of a) d)) (piece (a + room_of a) (drop (room_of a) d)) e f g k)

  -- where the code lends the last part of the data by its length, at the beginning of the next 64 KiB
  pub put_cut_by : (a : ℕ) (d : List ℕ) (e : List ℕ) {q r : Tally} {m o : List ℕ} → room_of a < length d → e ≡ take (length d - room_of a) (drop (room_of a) d)
      → q ≡ after t (piece a (take (room_of a) d)) → m ≡ put_lines out (at + t.len) (lines_one kind t (piece a (take (room_of a) d)))
      → r ≡ tally_piece q (a / 65536 + 1) (length e) → o ≡ put_lines m (at + q.len) (piece_lines kind q (a / 65536 + 1) 0 e) → Puts (split_of (piece a d)) r o
  put_cut_by a d e {q} {r} {m} {o} h w f g k p =
      let same : e ≡ drop (room_of a) d = w ∙ take_all (length d - room_of a) (drop (room_of a) d) (omega (arith, length-drop (room_of a) d)) in
      let upper : a / 65536 + 1 ≡ (a + room_of a) / 65536 = omega arith in
      let lower : 0 ≡ (a + room_of a) % 65536 = omega arith in
      put_cut a d h f g (k ∙ rw (same, upper) refl) (p ∙ rw (same, upper, lower) refl)

-- which of the two it is, by the code's test
pub is_cut : (a : ℕ) {n : ℕ} {b : Bool} → b ≡ crosses a n → b ≡ true → room_of a < n
is_cut a {n} e y = ltb-true (room_of a) n (sym e ∙ y)

pub is_whole : (a : ℕ) {n : ℕ} {b : Bool} → b ≡ crosses a n → b ≡ false → n ≤ room_of a
is_whole a {n} e z = ltb-false (room_of a) n (sym e ∙ z)

-- what put_data asks of put_piece at the second part
pub second_fits : (t : Tally) (u : ℕ) (d : List ℕ) (r : ℕ) {q : Tally} → t.len ≤ 1000000000 → length d ≤ 32 → q ≡ tally_piece t u (length (take r d))
    → (q.len ≤ 1073741824) × (length (take (length d - r) (drop r d)) ≤ 32)
second_fits t u d r h l e =
    let n = length-take r d in (
      rw e (omega (arith, piece_most t u (length (take r d)) (omega arith))),
      omega (arith, length-take (length d - r) (drop r d)),
    )

-- ---- lists of pieces

pub tally_append : (t : Tally) (xs ys : List Store) → tally_all t (xs ++ ys) ≡ tally_all (tally_all t xs) ys
unfolding tally_all
tally_append t [] ys = refl
tally_append t (x ∷ xs) ys = tally_append (after t x) xs ys

pub lines_append : (kind : ℕ) (t : Tally) (xs ys : List Store)
    → pieces_lines kind t (xs ++ ys) ≡ pieces_lines kind t xs ++ pieces_lines kind (tally_all t xs) ys
unfolding tally_all pieces_lines
lines_append kind t [] ys = refl
lines_append kind t (x ∷ xs) ys =
    ap (λ (l : List (List ℕ)). lines_one kind t x ++ l) (lines_append kind (after t x) xs ys)
    ∙ sym (append_assoc (lines_one kind t x) (pieces_lines kind (after t x) xs) (pieces_lines kind (tally_all (after t x) xs) ys))

pub length_pieces : (kind : ℕ) (t : Tally) (ss : List Store) → t.len + length (flatten (pieces_lines kind t ss)) ≡ (tally_all t ss).len
unfolding tally_all pieces_lines flatten
length_pieces kind t [] = omega arith
length_pieces kind t (s ∷ ss) =
    omega (
      arith,
      length_flatten (lines_one kind t s) (pieces_lines kind (after t s) ss),
      length_piece kind t (upper_of s) (s.address % 65536) s.bytes,
      length_pieces kind (after t s) ss,
    )

pub put_more : (out : List ℕ) (kind at : ℕ) (t : Tally) (xs ys : List Store)
    → put_lines (put_lines out (at + t.len) (pieces_lines kind t xs)) (at + (tally_all t xs).len) (pieces_lines kind (tally_all t xs) ys)
    ≡ put_lines out (at + t.len) (pieces_lines kind t (xs ++ ys))
put_more out kind at t xs ys =
    let e : at + t.len + length (flatten (pieces_lines kind t xs)) ≡ at + (tally_all t xs).len = omega (arith, length_pieces kind t xs) in
    rw (← e, lines_append kind t xs ys) (sym (put_append out (at + t.len) (pieces_lines kind t xs) (pieces_lines kind (tally_all t xs) ys)))

pub split_append : (xs ys : List Store) → split_all (xs ++ ys) ≡ split_all xs ++ split_all ys
unfolding split_all
split_append [] ys = refl
split_append (x ∷ xs) ys =
    ap (λ (l : List Store). split_of x ++ l) (split_append xs ys) ∙ sym (append_assoc (split_of x) (split_all xs) (split_all ys))

-- ---- what is kept of them all

tally_some : (t : Tally) (ss : List Store) → has t.uppers ≡ true → has (tally_all t ss).uppers ≡ true
unfolding tally_all tally_piece
tally_some t [] e = e
tally_some t (s ∷ ss) e = tally_some (after t s) ss refl

pub fresh_some : (ss : List Store) → has (tally_all fresh_tally ss).uppers ≡ is_some ss
unfolding tally_all tally_piece
fresh_some [] = refl
fresh_some (s ∷ ss) = tally_some (after fresh_tally s) ss refl

first_same : (o : Option Uppers) (u v : ℕ) → has o ≡ true → first_of o u ≡ first_of o v
first_same None u v e = clash false e refl
first_same (Some x) u v e = refl

tally_first : (t : Tally) (ss : List Store) → has t.uppers ≡ true → first_of (tally_all t ss).uppers 0 ≡ first_of t.uppers 0
unfolding tally_all tally_piece
tally_first t [] e = refl
tally_first t (s ∷ ss) e = tally_first (after t s) ss refl ∙ first_same t.uppers (upper_of s) 0 e

pub fresh_first : (ss : List Store) → first_of (tally_all fresh_tally ss).uppers 0 ≡ first_upper ss
unfolding tally_all tally_piece
fresh_first [] = refl
fresh_first (s ∷ ss) = tally_first (after fresh_tally s) ss refl

-- a record with data is at least one piece
pub split_some : (ss : List Store) → is_some (split_all ss) ≡ is_some ss
unfolding split_all split_of
split_some [] = refl
split_some (s ∷ ss) =
    split (ltb (room_of s.address) (length s.bytes)) (λ y. rw y refl) (λ n. rw n refl)

-- the lines after an 04 that holds u
after_uppers : (t : Tally) (s : Store) → (after t s).uppers ≡ Some (uppers (first_of t.uppers (upper_of s)) (upper_of s))
unfolding tally_piece
after_uppers t s = refl

first_lines : (kind f u : ℕ) (t : Tally) (s : Store) (ls : List (List ℕ)) → t.uppers ≡ Some (uppers f u)
    → lines_one kind t s ++ ls ≡ upper_if u (upper_of s) (record_line kind (s.address % 65536) s.bytes ∷ ls)
unfolding piece_lines
first_lines kind f u t s ls e = split (eqb u (upper_of s)) (λ y. rw (e, y)) (λ n. rw (e, n))

body_lines_lem : (kind f u : ℕ) (t : Tally) (ss : List Store) → t.uppers ≡ Some (uppers f u) → pieces_lines kind t ss ≡ body_lines kind u ss
unfolding pieces_lines body_lines
body_lines_lem kind f u t [] e = refl
body_lines_lem kind f u t (s ∷ ss) e =
    ap (λ (l : List (List ℕ)). lines_one kind t s ++ l) (body_lines_lem kind (first_of t.uppers (upper_of s)) (upper_of s) (after t s) ss (after_uppers t s))
    ∙ first_lines kind f u t s (body_lines kind (upper_of s) ss) e

fresh_line : (kind : ℕ) (s : Store) (ls : List (List ℕ))
    → lines_one kind fresh_tally s ++ ls ≡ upper_if (upper_of s) (upper_of s) (record_line kind (s.address % 65536) s.bytes ∷ ls)
unfolding piece_lines
fresh_line kind s ls = rw (eqb_same (upper_of s))

pub fresh_lines : (kind : ℕ) (ss : List Store) → pieces_lines kind fresh_tally ss ≡ body_lines kind (first_upper ss) ss
unfolding pieces_lines body_lines
fresh_lines kind [] = refl
fresh_lines kind (s ∷ ss) =
    ap (λ (l : List (List ℕ)). lines_one kind fresh_tally s ++ l) (body_lines_lem kind (upper_of s) (upper_of s) (after fresh_tally s) ss (after_uppers fresh_tally s))
    ∙ fresh_line kind s (body_lines kind (upper_of s) ss)
