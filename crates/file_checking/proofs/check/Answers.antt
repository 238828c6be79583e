use mathlib.Core.Path.{sym, ap, ◌∙◌}
use Rattle.memory.specs.Bitmap.{unmarked}
use Rattle.file_checking.proofs.Files.{same_lengths}
use Rattle.file_checking.proofs.check.Goals as goal

pub judge-found-requires : goal.judge-found-requires
judge-found-requires c =
    let e = c.clear_maps.ensures in
    record {
      numbers = e.0 ∙ ap unmarked (sym c.numbers-1.given);
      cells = e.1 ∙ ap unmarked (sym c.cells-1.given);
      offsets = e.2 ∙ ap unmarked (sym c.offsets-1.given);
    }

pub returns : goal.returns
returns c =
    let a = c.numbers-1.given in
    let b = c.cells-1.given in
    let d = c.offsets-1.given in
    let e = c.clear_maps-2.ensures in
    record {
      value = same_lengths _ _ _ a b d c.judge-found.ensures;
      left = (e.0 ∙ ap unmarked (c.numbers-2-1.given ∙ a), e.1 ∙ ap unmarked (c.cells-2-1.given ∙ b), e.2 ∙ ap unmarked (c.offsets-2-1.given ∙ d));
    }
