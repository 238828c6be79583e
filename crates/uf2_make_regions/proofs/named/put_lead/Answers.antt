use mathlib.Core.Path.{◌∙◌}
use Rattle.uf2_make_regions.proofs.named.Laws.{lead_put}
use Rattle.uf2_make_regions.proofs.named.put_lead.Goals as goal

pub returns : goal.returns
returns c =
    let start = c in
    c.put_fields.ensures ∙ lead_put start.args.out.now _ _ _ _ start.requires
