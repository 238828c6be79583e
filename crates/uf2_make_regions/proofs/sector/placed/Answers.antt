use mathlib.Core.Path.{sym, ap, ◌∙◌}
use mathlib.Core.List.{List}
use Prim.Native.Nat.{ℕ}
use Rattle.md5_digest.specs.Md5.{md5_of}
use Rattle.uf2_make_regions.proofs.sector.Laws.{blank, placed_over, placed_long}
use Rattle.uf2_make_regions.proofs.sector.placed.Goals as goal

pub slice_bounds-hash-end : goal.slice_bounds-hash-end
slice_bounds-hash-end c =
    let a = c.args in
    let p = c.requires in
    sym (placed_long a.image.now a.at a.from a.count p.count_bound p.inside blank c.copy_from_slice.ensures.after)

pub returns : goal.returns
returns c =
    let a = c.args in
    let p = c.requires in
    c.hash.ensures ∙ ap (λ (l : List ℕ). md5_of l) (placed_over a.image.now a.at a.from a.count p.count_bound p.inside blank c.copy_from_slice.ensures.after)
