use mathlib.Core.Path.{◌≡◌, ap, ◌∙◌}
use mathlib.Core.Bool.{Bool}
use Prim.Native.Nat.{ℕ, ◌/◌, ◌%◌}
use lib.Dec.{eqb}
use Rattle.laws.proofs.Masks.{mask_bit}
use Rattle.uf2_block.specs.Block.{fields_of}
use Rattle.uf2_block.proofs.fields.Goals as goal

pub returns : goal.returns
unfolding fields_of
returns c =
    let comment = mask_bit c.field-6.result 0 ∙ ap (λ (n : ℕ). eqb (n / 1 % 2) 1) c.field-6.ensures in
    λ i.
    record {
      address = c.field.ensures i;
      size = c.field-2.ensures i;
      number = c.field-3.ensures i;
      total = c.field-4.ensures i;
      family = c.field-5.ensures i;
      comment = comment i;
    }
