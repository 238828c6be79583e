use mathlib.Core.Path.{sym, ap, ◌∙◌}
use Rattle.memory.specs.Many.{many}
use Rattle.memory.specs.Bitmap.{unmarked}
use Rattle.region_checking.proofs.Files.{after_lengths, whole_is}
use Rattle.region_checking.proofs.check_regions.Goals as goal

pub after_check-said-requires : goal.after_check-said-requires
after_check-said-requires c = record {
  found_value = after_lengths _ _ _ c.check-found.ensures.value c.numbers-1.given c.cells-1.given c.offsets-1.given;
  cleared = c.check-found.ensures.left.0 ∙ ap unmarked (sym c.numbers-1.given);
}

pub returns : goal.returns
returns c = record {
  value = whole_is _ _ _ _ _ _ _ c.check-found.ensures.value c.after_check-said.ensures;
  left = (c.clear.ensures ∙ ap unmarked (c.numbers-2-1.given ∙ c.numbers-1.given), c.clear-2.ensures ∙ ap unmarked (c.cells-2-1.given ∙ c.cells-1.given), c.check-found.ensures.left.2, c.fill.ensures ∙ ap (λ x. many x 255) c.image-1.given);
}
