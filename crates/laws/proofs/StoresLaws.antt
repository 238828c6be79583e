-- What the latest stores leave, and a byte of an image with a store in it. Assumes nothing.
use Prim.Native.Nat.{ℕ, ◌+◌, ◌-◌, ◌≤◌}
use mathlib.Core.Path.{◌≡◌, refl, ◌∙◌}
use mathlib.Core.Bool.{true, false, cond, ◌&&◌}
use mathlib.Core.List.{List, [], ◌∷◌, ◌++◌}
use lib.Dec.{leb, ltb}
use lib.ListN.{length, get_or}
use borrow.Author.Tests.{leb-true, leb-false, ltb-true, ltb-false}
use Rattle.laws.specs.Over.{over}
use Rattle.laws.proofs.Tests.{split, or_left, or_right}
use Rattle.laws.proofs.OverLaws.{over_inside, over_before, over_after}
use Rattle.laws.specs.Stores.{Store, covers, byte_of, any_covers, latest}

pub latest_append : (j : ℕ) (xs ys : List Store) (d : ℕ) → latest j (xs ++ ys) d ≡ latest j ys (latest j xs d)
unfolding latest
latest_append j [] ys d = refl
latest_append j (x ∷ xs) ys d = latest_append j xs ys (cond (covers x j) (byte_of x j) d)

pub latest_none : (j : ℕ) (xs : List Store) (d : ℕ) → any_covers xs j ≡ false → latest j xs d ≡ d
unfolding latest any_covers
latest_none j [] d e = refl
latest_none j (x ∷ xs) d e =
    latest_none j xs (cond (covers x j) (byte_of x j) d) (or_right (covers x j) (any_covers xs j) e)
    ∙ rw (or_left (covers x j) (any_covers xs j) e)

pub latest_last : (j : ℕ) (xs ys : List Store) (s : Store) (d : ℕ) → covers s j ≡ true → any_covers ys j ≡ false
    → latest j (xs ++ (s ∷ ys)) d ≡ byte_of s j
unfolding latest
latest_last j xs ys s d c n =
    latest_append j xs (s ∷ ys) d ∙ latest_none j ys (cond (covers s j) (byte_of s j) (latest j xs d)) n ∙ rw c

-- a byte of an image with a store in it
pub get_d_over : (d : List ℕ) (at : ℕ) (s : List ℕ) (j : ℕ) → at + length s ≤ length d
    → get_or (over d at s) j 0 ≡ cond (leb at j && ltb j (at + length s)) (get_or s (j - at) 0) (get_or d j 0)
get_d_over d at s j f =
    split (leb at j)
    (λ y.
    split (ltb j (at + length s))
    (λ t. rw (y, t) (over_inside d at s f j (leb-true at j y) (ltb-true j (at + length s) t)))
    (λ t. rw (y, t) (over_after d at s f j (ltb-false j (at + length s) t))))
    (λ n. rw n (over_before d at s f j (leb-false at j n)))
