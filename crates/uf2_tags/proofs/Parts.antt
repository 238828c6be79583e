-- A part of a block, as far as it stands in it. Assumes nothing.
use mathlib.Core.Path.{◌≡◌, sym, ◌∙◌}
use mathlib.Core.List.{List, []}
use Prim.Native.Nat.{ℕ, ◌+◌, ◌-◌, min}
use native.Mathlib.Omega.{arith}
use lib.ListN.{length, take, drop, length-drop, drop_of_length-le}
use lib.Seq.{take_all, take-length, take-nil}
use Rattle.std.proofs.lemmas.List.{take_min}
use lib.Dec.{leb}
use borrow.Author.Tests.{leb-true, leb-false}
use Rattle.laws.proofs.Tests.{split}
use Rattle.uf2_tags.specs.declared.one_tag.Tag.{Tag}
use Rattle.uf2_tags.specs.Tag.{contents_of}

-- from the lesser of the start and the length, the lesser of the count and what is left
pub clamped : (b : List ℕ) (t : Tag) (from len : ℕ) → from ≡ min t.start (length b) → len ≡ min t.len (length b - from)
    → take (from + len - from) (drop from b) ≡ contents_of b t
unfolding contents_of
clamped b t from len f h =
    let n : from + len - from ≡ len = omega arith in
    split (leb t.start (length b))
    (λ y.
    let e : from ≡ t.start = omega (arith, leb-true t.start (length b) y) in
    let k : length b - from ≡ length (drop from b) = sym (length-drop from b) in
    rw (n, h, k, take_min t.len (drop from b), e))
    (λ z.
    let w = leb-false t.start (length b) z in
    let past : drop from b ≡ [] = drop_of_length-le b {i = from} (omega (arith, w)) in
    let none : drop t.start b ≡ [] = drop_of_length-le b {i = t.start} (omega (arith, w)) in
    rw (n, past, none) (take-nil len ∙ sym (take-nil t.len)))
