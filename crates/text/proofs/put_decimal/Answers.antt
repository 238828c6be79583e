use mathlib.Core.Path.{ap, ◌∙◌}
use Rattle.text.specs.Parts.{end_of, put_part}
use Rattle.text.proofs.Laws.{decimal_is}
use Rattle.text.proofs.put_decimal.Goals as goal

pub returns : goal.returns
returns c =
    let d = c.decimal-k in
    let x = c.args in
    let e = decimal_is x.n d.result c.ranges.n.fits d.ensures.len d.ensures.digits in
    record {
      value = c.put.ensures.value ∙ ap (end_of _ x.at) e;
      out_after = c.put.ensures.out_after ∙ ap (put_part _ x.at) e;
    }
