-- The line of a record: how long it is, its parts one after the other, and where it does not fit. Assumes nothing.
use Rattle.std.proofs.Common.{◌≡◌, ℕ, ◌+◌, ◌*◌, ◌/◌, ◌%◌, ◌<◌, ◌≤◌, Bool, true, false, leb, List, [], ◌∷◌, ◌++◌, length, get_or, sym, refl, ap, ◌∙◌, arith, length-append, le-leb, leb-false, leb-true}
use borrow.Author.Tests.{lt-leb}
use Rattle.laws.specs.Over.{over}
use Rattle.laws.proofs.OverLaws.{over_next}
use Rattle.laws.proofs.Tests.{split}
use Rattle.ihex_record.specs.Write.{bytes_text, field_bytes, checksum, record_text, record_line}
use Rattle.ihex_record.proofs.Written.{length_text}
use Rattle.ihex_write.specs.Room.{has_room}
use Rattle.ihex_write.proofs.digit_text.Rooms.{few, within}
use Rattle.ihex_write.specs.Put.{put_line, put_record}
use Rattle.ihex_write.proofs.Digits.{text_append}

pub length_line : (kind address : ℕ) (d : List ℕ) → length (record_line kind address d) ≡ 12 + 2 * length d
unfolding record_line record_text
length_line kind address d =
    let f = field_bytes kind address d in
    let c = checksum f ∷ [] in
    omega (arith, length-append (58 ∷ bytes_text (f ++ c)) (10 ∷ []), length_text (f ++ c), length-append f c)

-- ---- its parts

-- the bytes of the address, high first
pub high_byte : (two : List ℕ) (w : ℕ) → w < 65536 → two ≡ w / 256 % 256 ∷ w % 256 ∷ [] → get_or two 0 0 ≡ w / 256
high_byte two w h e = rw e (omega arith)

pub low_byte : (two : List ℕ) (w : ℕ) → two ≡ w / 256 % 256 ∷ w % 256 ∷ [] → get_or two 1 0 ≡ w % 256
low_byte two w e = rw e refl

grown : (out : List ℕ) (at k : ℕ) (s t : List ℕ) {x y : List ℕ} → x ≡ over out at s → y ≡ over x k t → at + length s ≡ k → k + length t ≤ length out
    → y ≡ over out at (s ++ t)
grown out at k s t e f p q = f ∙ rw e (over_next out at s k t p q)

module _ (kind address : ℕ) (d : List ℕ) where
  abbrev head : List ℕ
  head = length d ∷ address / 256 ∷ address % 256 ∷ kind ∷ []

  parts : (c : ℕ) → c ≡ checksum (field_bytes kind address d)
      → ((((58 ∷ []) ++ bytes_text head) ++ bytes_text d) ++ bytes_text (c ∷ [])) ++ (10 ∷ []) ≡ record_line kind address d
  unfolding record_line record_text
  parts c e =
      let f = head ++ d in
      rw (e, text_append f (checksum f ∷ []), text_append head d)

  pub line_put : (out : List ℕ) (at c : ℕ) {one two three four five : List ℕ} → at + (12 + 2 * length d) ≤ length out → c ≡ checksum (field_bytes kind address d)
      → one ≡ over out at (58 ∷ []) → two ≡ over one (at + 1) (bytes_text head) → three ≡ over two (at + 9) (bytes_text d)
      → four ≡ over three (at + 9 + 2 * length d) (bytes_text (c ∷ [])) → five ≡ over four (at + 9 + 2 * length d + 2) (10 ∷ [])
      → five ≡ over out at (record_line kind address d)
  line_put out at c h e a b p q r =
      let colon : List ℕ = 58 ∷ [] in
      let h4 = bytes_text head in
      let body = bytes_text d in
      let last = bytes_text (c ∷ []) in
      let n4 : length h4 ≡ 8 = length_text head in
      let nd : length body ≡ 2 * length d = length_text d in
      let n1 : length last ≡ 2 = length_text (c ∷ []) in
      let l2 = length-append colon h4 in
      let l3 = length-append (colon ++ h4) body in
      let l4 = length-append ((colon ++ h4) ++ body) last in
      let s2 = grown out at (at + 1) colon h4 a b refl (omega arith) in
      let s3 = grown out at (at + 9) (colon ++ h4) body s2 p (omega arith) (omega arith) in
      let s4 = grown out at (at + 9 + 2 * length d) ((colon ++ h4) ++ body) last s3 q (omega arith) (omega arith) in
      let s5 = grown out at (at + 9 + 2 * length d + 2) (((colon ++ h4) ++ body) ++ last) (10 ∷ []) s4 r (omega arith) (omega arith) in
      s5 ∙ ap (over out at) (parts c e)

-- ---- where it fits

module _ (out : List ℕ) (at kind address : ℕ) (d : List ℕ) where
  too_much : 32 < length d → out ≡ put_record out at kind address d
  unfolding put_record
  too_much h = rw (lt-leb (length d) 32 h)

  put_by : {r : List ℕ} → length d ≤ 32 → r ≡ put_line out at (record_line kind address d) → r ≡ put_record out at kind address d
  unfolding put_record
  put_by h e = rw (le-leb (length d) 32 h) e

  too_short : length d ≤ 32 → length out < at + (12 + 2 * length d) → out ≡ put_record out at kind address d
  unfolding put_line
  too_short h l =
      let n = length_line kind address d in
      put_by h (rw (lt-leb (at + length (record_line kind address d)) (length out) (omega arith)))

  -- by the code's test
  pub no_room : {b : Bool} → b ≡ has_room (length out) at (length d) → b ≡ false → out ≡ put_record out at kind address d
  no_room e n =
      let f : has_room (length out) at (length d) ≡ false = sym e ∙ n in
      split (leb (length d) 32)
      (λ y. too_short (leb-true (length d) 32 y) (leb-false (at + (12 + 2 * length d)) (length out) (rw y at f)))
      (λ z. too_much (leb-false (length d) 32 z))

  pub is_put : {b : Bool} {r : List ℕ} → b ≡ has_room (length out) at (length d) → b ≡ true → r ≡ over out at (record_line kind address d)
      → r ≡ put_record out at kind address d
  unfolding put_line
  is_put f y e =
      let n = length_line kind address d in
      let fits = within (length out) at (length d) f y in
      put_by (few (length out) at (length d) f y) (rw (le-leb (at + length (record_line kind address d)) (length out) (omega arith)) e)
