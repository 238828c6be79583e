-- The call by what its parts ensure. Assumes nothing.
use Prim.Native.Nat.{ℕ}
use mathlib.Core.Path.{◌≡◌, sym, ◌∙◌}
use mathlib.Core.Logic.{◌≢◌}
use mathlib.Core.Bool.{true, false}
use mathlib.Core.List.{List}
use lib.Dec.{eqb}
use lib.ListN.{length}
use borrow.Author.Tests.{eq-eqb, ne_eqb}
use Rattle.file_check.specs.Check.{Checked, checked_number}
use Rattle.checkapi.specs.CheckBytes.{piece_told, other_told, numbers_over, call_return, check_call}

module _ (x : Checked) (l : List ℕ) where
  pub no_bytes : length l ≢ 16 → call_return 1 l ≡ check_call x l
  unfolding check_call
  no_bytes d = let z : eqb (length l) 16 ≡ false = ne_eqb _ _ d in rw z

  pub written : length l ≡ 16 → {i j n : ℕ} → i ≡ piece_told x → j ≡ other_told x → {o : List ℕ} → o ≡ numbers_over l i j → n ≡ checked_number x → call_return n o ≡ check_call x l
  unfolding check_call
  written d p q e g =
      let y : eqb (length l) 16 ≡ true = eq-eqb _ _ d in
      (λ t. call_return (g t) ((e ∙ (λ u. numbers_over l (p u) (q u))) t)) ∙ sym (rw y)
