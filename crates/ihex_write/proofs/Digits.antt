-- The digits of bytes, written one after the other; the checksum by two sums. Assumes nothing.
use Rattle.std.proofs.Common.{◌≡◌, ℕ, ◌+◌, ◌-◌, ◌*◌, ◌/◌, ◌%◌, ◌<◌, ◌≤◌, List, [], ◌∷◌, ◌++◌, length, get_or, take, sym, refl, ap, ◌∙◌, add-zero, add-one, arith, take-append-drop, length-take-le, take-suc}
use Rattle.laws.specs.Over.{over}
use Rattle.laws.proofs.OverLaws.{over_next}
use Rattle.ihex_record.specs.Record.{total}
use Rattle.ihex_record.specs.Write.{digit_text, bytes_text, checksum}
use Rattle.ihex_record.proofs.Sums.{total_append}
use Rattle.ihex_record.proofs.Written.{length_text}

pub over_nothing : (d : List ℕ) (at : ℕ) → over d at [] ≡ d
unfolding over
over_nothing d at = rw (add-zero at) (take-append-drop at d)

pub text_append : (a b : List ℕ) → bytes_text (a ++ b) ≡ bytes_text a ++ bytes_text b
unfolding bytes_text
text_append [] b = refl
text_append (x ∷ a) b =
    ap (λ (l : List ℕ). digit_text (x / 16) ∷ digit_text (x % 16) ∷ l) (text_append a b)

pub text_one : (b : ℕ) → bytes_text (b ∷ []) ≡ digit_text (b / 16) ∷ digit_text (b % 16) ∷ []
unfolding bytes_text
text_one b = refl

-- bytes, none of them, and one more
pub bytes_none : (out : List ℕ) (at : ℕ) (bytes : List ℕ) → at ≤ length out → out ≡ over out at (bytes_text (take 0 bytes))
unfolding bytes_text
bytes_none out at bytes h = sym (over_nothing out at)

pub bytes_put : (out bytes : List ℕ) (at i : ℕ) {one two : List ℕ} → at + 2 * length bytes ≤ length out → i < length bytes
    → one ≡ over out at (bytes_text (take i bytes)) → two ≡ over one (at + 2 * i) (bytes_text (get_or bytes i 0 ∷ []))
    → two ≡ over out at (bytes_text (take (i + 1) bytes))
bytes_put out bytes at i {one} {two} h l e f =
    let b = get_or bytes i 0 in
    let n : length (take i bytes) ≡ i = length-take-le i bytes (omega arith) in
    let more : bytes_text (take (i + 1) bytes) ≡ bytes_text (take i bytes) ++ bytes_text (b ∷ []) =
    rw (add-one, take-suc bytes i 0) (text_append (take i bytes) (b ∷ [])) in
    f
    ∙ rw (e, more)
    (over_next out at (bytes_text (take i bytes)) (at + 2 * i) (bytes_text (b ∷ [])) (omega (arith, length_text (take i bytes), n)) (omega (arith, length_text (b ∷ []))))

-- c brings the sum of two lists to zero
two_sums : (a b : ℕ) → (a % 256 + b % 256) % 256 ≡ (a + b) % 256
two_sums a b = omega arith

is_check : (c t : ℕ) → (c + t % 256) % 256 ≡ 0 → c < 256 → c ≡ (256 - t % 256) % 256
is_check c t e l = omega arith

pub check_sum : (head d : List ℕ) (x y s c : ℕ) → x ≡ total head % 256 → y ≡ total d % 256 → s ≡ (x + y) % 256 → (c + s) % 256 ≡ 0 → c < 256
    → c ≡ checksum (head ++ d)
check_sum head d x y s c p q r z l =
    let t = total (head ++ d) in
    let sum : s ≡ t % 256 = r ∙ rw (p, q, total_append head d) (two_sums (total head) (total d)) in
    is_check c t (rw sum at z) l
