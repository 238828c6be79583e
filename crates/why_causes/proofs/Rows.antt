-- Rows one after the other, and that the check that is told is the one that decides, whatever the checks and their test. Assumes nothing.
use mathlib.Core.Path.{◌≡◌, refl, sym, ap, ◌∙◌}
use mathlib.Core.Bool.{Bool, true, false, cond}
use mathlib.Core.List.{List, [], ◌∷◌, ◌++◌}
use Rattle.why_causes.specs.declared.Reason.{Reason}
use Rattle.std.specs.Prelude.{Result, Ok, Err}
use Rattle.why_causes.specs.Checks.{row_of, or_next, or_last, Deciding, none, here, later}

module _ (test : Reason → Bool) where
  pub rows_next : (l m : List Reason) → row_of test (l ++ m) ≡ or_next (row_of test l) (row_of test m)
  unfolding row_of
  rows_next [] m = refl
  rows_next (c ∷ l) m = by-case (test c) c (row_of test (l ++ m)) (row_of test l) (row_of test m) (rows_next l m)
    where
      by-case : (b : Bool) (x : Reason) (p q r : Result (Unit {0}) Reason) → p ≡ or_next q r → cond b (Err x) p ≡ or_next (cond b (Err x) q) r
      by-case true x p q r e = refl
      by-case false x p q r e = e

  -- a row that decides, and one that passes to the next
  module _ (l m : List Reason) {r : Result (Unit {0}) Reason} (e : r ≡ row_of test l) where
    pub row_decides : {x : Reason} → r ≡ Err x → Err x ≡ row_of test (l ++ m)
    row_decides h = sym (rows_next l m ∙ ap (λ (q : Result (Unit {0}) Reason). or_next q (row_of test m)) (sym e ∙ h))

    pub row_passes : {q : Result (Unit {0}) Reason} → r ≡ Ok tt → q ≡ row_of test m → q ≡ row_of test (l ++ m)
    row_passes h k = k ∙ sym (rows_next l m ∙ ap (λ (q : Result (Unit {0}) Reason). or_next q (row_of test m)) (sym e ∙ h))

  -- a check that passes to the next
  pub row_later : (c : Reason) (l : List Reason) {q : Result (Unit {0}) Reason} → test c ≡ false → q ≡ row_of test l → q ≡ row_of test (c ∷ l)
  unfolding row_of
  row_later c l h e = e ∙ sym (rw h)

  -- the reason is the true one
  pub deciding : (last : Reason) (l : List Reason) → Deciding test last l (or_last last (row_of test l))
  unfolding row_of
  deciding last [] = none
  deciding last (c ∷ l) = by-case (test c) refl (deciding last l)
    where
      by-case : (b : Bool) → test c ≡ b → Deciding test last l (or_last last (row_of test l)) → Deciding test last (c ∷ l) (or_last last (cond b (Err c) (row_of test l)))
      by-case true h d = here h
      by-case false h d = later h d
