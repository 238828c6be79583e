-- The bytes that digits say. Assumes nothing.
use mathlib.Core.Path.{◌≡◌, sym, ap, ◌∙◌}
use mathlib.Core.List.{List, [], ◌++◌, append-nil}
use Prim.Native.Nat.{ℕ, ◌/◌, ◌≤◌, ◌<◌}
use native.Mathlib.Omega.{arith}
use lib.Dec.{ltb}
use lib.ListN.{length, take, drop, length-append, drop_of_length-le}
use lib.Seq.{take_all, take_at, length-take-le}
use borrow.Author.Tests.{ltb-true, ltb-false}
use Rattle.laws.proofs.Tests.{split}
pub use Rattle.hex_digits.proofs.pairs.Stored.{length_bytes}
pub use Rattle.hex_digits.proofs.decoding.FirstLaws.{rest}
use Rattle.hex_digits.specs.Digits.{digit_of, bytes_of, decoded, decoded_by}

-- `out` begins with the bytes that the digits l say, as many as it has room for
abbrev pub Decoding : List ℕ → List ℕ → Type 0
Decoding l out = take (length l / 2) out ≡ take (length out) (bytes_of l)

pub decoding : (l lent : List ℕ) {out : List ℕ} → out ≡ decoded l lent → Decoding l out
unfolding decoded_by
decoding l lent {out} e =
    let w = bytes_of l in
    let r = drop (length l / 2) lent in
    let n : length w ≡ length l / 2 = length_bytes digit_of l in
    split (ltb (length lent) (length l / 2))
    (λ y.
    let h : length lent < length l / 2 = ltb-true _ _ y in
    let z : r ≡ [] = drop_of_length-le lent {i = length l / 2} (omega arith) in
    let f : out ≡ take (length lent) w = e ∙ ap (λ (x : List ℕ). take (length lent) w ++ x) z ∙ append-nil _ in
    let m : length out ≡ length lent = ap length f ∙ length-take-le (length lent) w (omega arith) in
    take_all (length l / 2) out (omega arith) ∙ f ∙ ap (λ (j : ℕ). take j w) (sym m))
    (λ y.
    let h : length l / 2 ≤ length lent = ltb-false _ _ y in
    let f : out ≡ w ++ r = e ∙ ap (λ (x : List ℕ). x ++ r) (take_all (length lent) w (omega arith)) in
    let m : length w ≤ length out = rw f (simp length-append (omega arith)) in
    ap (take (length l / 2)) f ∙ take_at w r (length l / 2) n ∙ sym (take_all (length out) w m))
