-- Fields that are written, and read back. Assumes nothing.
use Prim.Native.Nat.{ℕ, ◌+◌, ◌-◌, ◌<◌, ◌≤◌, ◌^◌}
use mathlib.Core.Path.{◌≡◌, refl, sym, ap, ◌∙◌}
use mathlib.Core.List.{List, [], ◌∷◌, ◌++◌}
use native.Mathlib.Omega.{arith}
use lib.ListN.{length, set, length-append}
use borrow.Author.Tests.{le-leb, lt-leb}
use borrow.Rule.Slice.PartMut.{put_mid}
use Rattle.std.specs.Int.{w32, to_le_bytes}
use Rattle.laws.specs.Over.{over}
use Rattle.laws.proofs.BytesLaws.{length_low, number_back, write_four}
use Rattle.laws.proofs.OverLaws.{length_over, set_over, over_next, part_over}
use Rattle.uf2_block.specs.Field.{field_at}
use Rattle.uf2_block.specs.WordsWrite.{le32, put_at}
use Rattle.uf2_block.proofs.words.Laws.{field_number}

-- ---- written

pub put_past : (b : List ℕ) (at x : ℕ) → length b < at + 4 → put_at b at x ≡ b
unfolding put_at
put_past b at x h = simp (lt-leb (at + 4) (length b) h)

pub put_over : (b : List ℕ) (at x : ℕ) → at + 4 ≤ length b → put_at b at x ≡ over b at (le32 x)
unfolding put_at
put_over b at x h = simp (le-leb (at + 4) (length b) h)

-- one byte more
pub set_next : (d : List ℕ) (at : ℕ) (s : List ℕ) (k x : ℕ) → at + length s ≡ k → k < length d → set (over d at s) k x ≡ over d at (s ++ (x ∷ []))
set_next d at s k x e l =
    let fits : at + length s ≤ length d = omega arith in
    let same = length_over d at s fits in
    set_over (over d at s) k x (omega arith) ∙ over_next d at s k (x ∷ []) e (omega arith)

-- four bytes that a part of four was made
pub put_part : (b : List ℕ) (at x : ℕ) {ys : List ℕ} → at + 4 ≤ length b → ys ≡ to_le_bytes w32 x → put_mid at (at + 4 - at) b ys ≡ put_at b at x
put_part b at x {ys} l e = part_over at 4 b (le32 x) ys (length_low 4 x) l (e ∙ write_four x) ∙ sym (put_over b at x l)

-- a field right after what is written already
pub put_after : (b s : List ℕ) (k x : ℕ) → length s ≡ k → k + 4 ≤ length b → put_at (over b 0 s) k x ≡ over b 0 (s ++ le32 x)
put_after b s k x e l =
    let fits : 0 + length s ≤ length b = omega arith in
    let same = length_over b 0 s fits in
    let at : 0 + length s ≡ k = omega arith in
    put_over (over b 0 s) k x (omega arith) ∙ over_next b 0 s k (le32 x) at (omega (arith, length_low 4 x))

-- ---- read back

-- four bytes of a number, wherever they stand, are read as it
pub field_le32 : (p : List ℕ) (x : ℕ) (s : List ℕ) → x < 2 ^ 32 → field_at (p ++ (le32 x ++ s)) (length p) ≡ x
field_le32 p x s h =
    let b = le32 x ++ s in
    let fits : length p + 4 ≤ length (p ++ b) = omega (arith, length-append p b, length-append (le32 x) s, length_low 4 x) in
    field_number (p ++ b) (length p) fits ∙ number_back 4 x p s h
