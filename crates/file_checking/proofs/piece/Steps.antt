-- A piece by what it is screened to. Assumes nothing.
use Prim.Native.Nat.{ℕ}
use mathlib.Core.Path.{◌≡◌, sym, ap, ◌∙◌}
use mathlib.Core.List.{List}
use Rattle.laws.specs.Numbered.{numbered}
use Rattle.laws.proofs.Numbered.{answer_is}
use Rattle.transfer.specs.Transfer.{fresh}
use Rattle.transfer.specs.declared.Transfer.{Transfer}
use Rattle.transfer.specs.declared.State.TheVariants.{Idle}
use Rattle.uf2_checks.specs.Screen.{screen_at, screening_number, Screening}
use Rattle.uf2_checks.specs.declared.Lengths.{Lengths}
use Rattle.uf2_checks.specs.declared.Rooms.{Rooms}
use Rattle.transfer.specs.declared.Head.{Head}
use Rattle.file_check.specs.Check.{Checked, piece_at}
use Rattle.file_checking.specs.Pieces.Parts.{Maps, screened_by, maps_then}

module _ (h : Head) (f : List ℕ) (i : ℕ) (m : Maps) {x y : Screening} (e : x ≡ y) where
  pub screened_is : {r : Checked} → r ≡ screened_by h f i m x → r ≡ screened_by h f i m y
  screened_is q = q ∙ ap (screened_by h f i m) e

  pub maps_are : {k : Maps} → k ≡ maps_then h f i m x → k ≡ maps_then h f i m y
  maps_are q = q ∙ ap (maps_then h f i m) e

-- what piece i is screened to, as the code takes it
pub screen_piece : (r : Rooms) (n : Lengths) (f : List ℕ) (i : ℕ) {a : List ℕ} → a ≡ piece_at f i → {t : Transfer} → t ≡ fresh → {x : Screening}
    → numbered screening_number x ≡ numbered screening_number (screen_at r n t.state a)
    → {y : Screening} → x ≡ y → y ≡ screen_at r n Idle (piece_at f i)
screen_piece r n f i p g e q =
    sym q ∙ answer_is e ∙ (λ j. screen_at r n (g j).state (p j))
