use Rattle.placement.specs.Passes.{pass_query_of}
use Rattle.placement.proofs.passes.query.Goals as goal

pub returns : goal.returns
unfolding pass_query_of
returns c =
    let o = c.other-o.ensures in
    simp (c.image-2.ensures, c.image.ensures, c.is_enabled-on.ensures, o)
