-- Rows 4 to 7 as the code reads them: by fields. Assumes nothing.
use mathlib.Core.Path.{◌≡◌, ap, ◌∙◌}
use mathlib.Core.List.{List}
use Prim.Native.Nat.{ℕ}
use Rattle.uf2_block.specs.Block.{field_at}
use Rattle.why_causes.specs.declared.Reason.{Reason}
use Rattle.std.specs.Prelude.{Result, Ok, Err}
use Rattle.why_causes.specs.Checks.{by_numbers, row_of, magic_row, flags_row, header_row}
use Rattle.why_causes.proofs.Rows.{row_decides, row_passes}

module _ (a : List ℕ) {x y z : ℕ} {r : Result (Unit {0}) Reason} (p : x ≡ field_at a 0) (q : y ≡ field_at a 4) (l : z ≡ field_at a 508) (e : r ≡ row_of by_numbers (magic_row x y z)) where
  magic : r ≡ row_of by_numbers (magic_row (field_at a 0) (field_at a 4) (field_at a 508))
  magic = rw (← p, ← q, ← l) e

  pub header_decides : {w : Reason} → r ≡ Err w → Err w ≡ row_of by_numbers (header_row a)
  unfolding header_row
  header_decides h = row_decides by_numbers (magic_row (field_at a 0) (field_at a 4) (field_at a 508)) (flags_row (field_at a 8)) magic h

  pub header_passes : {f : ℕ} {w : Result (Unit {0}) Reason} → f ≡ field_at a 8 → r ≡ Ok tt → w ≡ row_of by_numbers (flags_row f) → w ≡ row_of by_numbers (header_row a)
  unfolding header_row
  header_passes g h k = row_passes by_numbers (magic_row (field_at a 0) (field_at a 4) (field_at a 508)) (flags_row (field_at a 8)) magic h (k ∙ ap (λ (n : ℕ). row_of by_numbers (flags_row n)) g)
