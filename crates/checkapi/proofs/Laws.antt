-- The call by what its parts ensure. Assumes nothing.
use Prim.Native.Nat.{ℕ}
use mathlib.Core.Path.{◌≡◌, ap, ◌∙◌}
use mathlib.Core.List.{List}
use Rattle.partitions.specs.declared.Settings.{Settings}
use Rattle.uf2_checks.specs.declared.Lengths.{Lengths}
use Rattle.settings_layout.specs.Layout.{settings_from}
use Rattle.file_check.specs.Check.{Checked, check_of}
use Rattle.checkapi.specs.CheckCall.{Call, check_call, check_call_of}

pub check_call_lem : (sb : List ℕ) (n : Lengths) (a b c : ℕ) (f l : List ℕ) {s : Settings} → s ≡ settings_from sb → {x : Checked} → x ≡ check_of s n a b c f → {r : Call} → r ≡ check_call x l
    → r ≡ check_call_of sb n a b c f l
check_call_lem sb n a b c f l p e h = h ∙ ap (λ (y : Checked). check_call y l) (e ∙ ap (λ (s : Settings). check_of s n a b c f) p)
