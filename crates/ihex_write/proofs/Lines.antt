-- Lines written one after the other: into a room that has space for all of them they are their text. Assumes nothing.
use Rattle.std.proofs.Common.{◌≡◌, ℕ, ◌+◌, ◌≤◌, leb, List, [], ◌∷◌, ◌++◌, length, sym, refl, ap, ◌∙◌, arith, length-append, le-leb, leb-true}
use mathlib.Core.List.{flatten}
use Rattle.laws.specs.Over.{over}
use Rattle.laws.proofs.Tests.{split}
use Rattle.laws.proofs.OverLaws.{length_over, over_next}
use Rattle.ihex_record.specs.Write.{record_line}
use Rattle.ihex_write.specs.Put.{put_line, put_record, put_lines}
use Rattle.ihex_write.proofs.Digits.{over_nothing}

pub put_record_line : (out : List ℕ) (at kind address : ℕ) (d : List ℕ) → length d ≤ 32 → put_record out at kind address d ≡ put_line out at (record_line kind address d)
unfolding put_record
put_record_line out at kind address d h = rw (le-leb (length d) 32 h)

pub put_none : (out : List ℕ) (at : ℕ) → put_lines out at [] ≡ out
unfolding put_lines
put_none out at = refl

pub put_one : (out : List ℕ) (at : ℕ) (l : List ℕ) → put_lines out at (l ∷ []) ≡ put_line out at l
unfolding put_lines
put_one out at l = refl

pub put_two : (out : List ℕ) (at : ℕ) (l m : List ℕ) → put_lines out at (l ∷ m ∷ []) ≡ put_line (put_line out at l) (at + length l) m
unfolding put_lines
put_two out at l m = refl

pub length_flatten : (xs ys : List (List ℕ)) → length (flatten (xs ++ ys)) ≡ length (flatten xs) + length (flatten ys)
unfolding flatten
length_flatten [] ys = omega arith
length_flatten (l ∷ xs) ys =
    omega (arith, length-append l (flatten (xs ++ ys)), length-append l (flatten xs), length_flatten xs ys)

pub put_append : (out : List ℕ) (at : ℕ) (xs ys : List (List ℕ)) → put_lines out at (xs ++ ys) ≡ put_lines (put_lines out at xs) (at + length (flatten xs)) ys
unfolding put_lines flatten
put_append out at [] ys = ap (λ (k : ℕ). put_lines out k ys) (omega arith)
put_append out at (l ∷ xs) ys =
    put_append (put_line out at l) (at + length l) xs ys
    ∙ ap (λ (k : ℕ). put_lines (put_lines (put_line out at l) (at + length l) xs) k ys) (omega (arith, length-append l (flatten xs)))

pub length_put : (out : List ℕ) (at : ℕ) (l : List ℕ) → length (put_line out at l) ≡ length out
unfolding put_line
length_put out at l =
    split (leb (at + length l) (length out))
    (λ y. rw y (length_over out at l (leb-true (at + length l) (length out) y)))
    (λ n. rw n refl)

-- past the end of the room nothing is written
line_past : (out : List ℕ) (at : ℕ) (l : List ℕ) → length out ≤ at → put_line out at l ≡ out
unfolding put_line
line_past out at [] h = split (leb (at + 0) (length out)) (λ y. rw y (over_nothing out at)) (λ n. rw n refl)
line_past out at (x ∷ l) h =
    split (leb (at + length (x ∷ l)) (length out))
    (λ y. absurd (omega (arith, leb-true (at + length (x ∷ l)) (length out) y)))
    (λ n. rw n refl)

pub put_past : (out : List ℕ) (at : ℕ) (ls : List (List ℕ)) → length out ≤ at → put_lines out at ls ≡ out
unfolding put_lines
put_past out at [] h = refl
put_past out at (l ∷ ls) h =
    ap (λ (o : List ℕ). put_lines o (at + length l) ls) (line_past out at l h) ∙ put_past out (at + length l) ls (omega arith)

pub put_fits : (out : List ℕ) (at : ℕ) (ls : List (List ℕ)) → at + length (flatten ls) ≤ length out → put_lines out at ls ≡ over out at (flatten ls)
unfolding put_lines flatten put_line
put_fits out at [] h = sym (over_nothing out at)
put_fits out at (l ∷ ls) h =
    let n = length-append l (flatten ls) in
    let fits : at + length l ≤ length out = omega arith in
    rw (le-leb (at + length l) (length out) fits)
    (put_fits (over out at l) (at + length l) ls (omega (arith, length_over out at l fits)) ∙ over_next out at l (at + length l) (flatten ls) refl (omega arith))
