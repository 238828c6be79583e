-- `reading::read_full`: one read more, behind what was read before. Assumes nothing.
use Rattle.std.proofs.Common.{◌≡◌, ℕ, ◌+◌, ◌-◌, ◌≤◌, List, ◌++◌, Option, None, Some, rules, length, take, sym, ap, ◌∙◌, subst, le_refl, append_assoc, drop_at, length-take-le}
use Rattle.std.proofs.lemmas.Slice.{take-put_mid_below}
use Rattle.std.specs.Io.KnownBytes.{Consumes}
use borrow.Rule.Slice.PartMut.{put_mid, post_of}
use lib.Seq.{take-add, take-append-le}
use Rattle.reading.proofs.read_full.Goals as goal

consumes_both : (a b c : Option (List ℕ)) (xs ys : List ℕ) → Consumes a b xs → Consumes b c ys → Consumes a c (xs ++ ys)
consumes_both None b c xs ys p q = tt
consumes_both (Some l) None c xs ys p q = absurd p
consumes_both (Some l) (Some m) None xs ys p q = absurd q
consumes_both (Some l) (Some m) (Some n) xs ys p q = p ∙ ap (λ t. xs ++ t) q ∙ sym (append_assoc xs ys n)

-- the start of a list of which a part was written
start_of : (at k n : ℕ) (xs ys : List ℕ) → at ≤ length xs → n ≤ length ys → take (at + n) (put_mid at k xs ys) ≡ take at xs ++ take n ys
start_of at k n xs ys within fits =
    let after = post_of at k xs in
    let rest : take n (ys ++ after) ≡ take n ys = take-append-le n ys after fits in
    take-add at n (put_mid at k xs ys)
    ∙ rw (take-put_mid_below at k xs ys at (le_refl at) within, drop_at (take at xs) (ys ++ after) at (length-take-le at xs within), rest)

pub loop-done-preserved : goal.loop-done-preserved
loop-done-preserved g c =
    let l = c.loop-done in
    let start = start_of l.done (length l.buf - l.done) c.in_ok-n.n l.buf c.read.new.buf l.invariant.0 c.in_ok-n.ensures.bound.0 in
    (search rules, subst (Consumes _ _) (sym start) (consumes_both _ _ _ _ _ l.invariant.1 c.in_ok-n.ensures.bytes.0))
