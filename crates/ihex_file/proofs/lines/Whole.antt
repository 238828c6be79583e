-- The lines of a text are what `LinesOf` says. Assumes nothing.
use Prim.Native.Nat.{ℕ, zero, suc}
use mathlib.Core.Path.{sym, subst}
use mathlib.Core.Logic.{◌≢◌}
use mathlib.Core.List.{List, [], ◌∷◌}
use native.Mathlib.Omega.{arith}
use lib.Dec.{eqb}
use borrow.Author.Tests.{eqb-true, eqb-false}
use Rattle.laws.proofs.Tests.{split}
use Rattle.ihex_file.specs.Lines.{glue, lines_of, NoLF, LinesOf, no_line, last_line_case, line, LinesAre}

none_in : NoLF []
none_in i h = absurd (omega arith)

none_more : (c : ℕ) (t : List ℕ) → c ≢ 10 → NoLF t → NoLF (c ∷ t)
none_more c t n h zero l = n
none_more c t n h (suc i) l = h i (omega arith)

glued : (c : ℕ) → c ≢ 10 → {s : List ℕ} {ls : List (List ℕ)} → LinesOf s ls → LinesOf (c ∷ s) (glue c ls)
glued c n no_line = last_line_case {t = c ∷ []} (omega arith) (none_more c [] n none_in)
glued c n (last_line_case {t} m h) = last_line_case {t = c ∷ t} (omega arith) (none_more c t n h)
glued c n (line t h r) = line (c ∷ t) (none_more c t n h) r

pub lines_are : LinesAre
unfolding LinesAre lines_of
lines_are [] = no_line
lines_are (c ∷ s) =
    let r = lines_are s in
    split (eqb c 10)
    (λ y. rw y (subst (λ (k : ℕ). LinesOf (k ∷ s) ((10 ∷ []) ∷ lines_of s)) (sym (eqb-true c 10 y)) (line [] none_in r)))
    (λ z. rw z (glued c (eqb-false c 10 z) r))
