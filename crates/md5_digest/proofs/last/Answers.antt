use Rattle.std.proofs.Common.{◌+◌, sym, refl, ◌∙◌, arith}
use Rattle.md5_digest.proofs.Laws.{long, whole, head, blocks_of_head}
use Rattle.md5_digest.proofs.last.Goals as goal

pub slice_bounds-tail-end-2 : goal.slice_bounds-tail-end-2
slice_bounds-tail-end-2 c =
    let a = c.args in
    let p = c.requires in
    omega (arith, long a.rest.now _ a.n a.e _ p.0 p.1 p.2 refl _ c.copy_from_slice.ensures.after refl)

pub slice_bounds-blocks-end : goal.slice_bounds-blocks-end
slice_bounds-blocks-end c =
    let a = c.args in
    let p = c.requires in
    let w = whole a.rest.now _ a.n a.e _ p.0 p.1 p.2 refl _ c.copy_from_slice.ensures.after refl _ (c.copy_from_slice-2.ensures.after ∙ c.bits.ensures) in
    sym w

pub blocks-requires : goal.blocks-requires
blocks-requires c =
    let a = c.args in
    let p = c.requires in
    let w = whole a.rest.now _ a.n a.e _ p.0 p.1 p.2 refl _ c.copy_from_slice.ensures.after refl _ (c.copy_from_slice-2.ensures.after ∙ c.bits.ensures) in
    omega arith

pub returns : goal.returns
returns c =
    let a = c.args in
    let p = c.requires in
    let w = head a.rest.now _ a.n a.e _ p.0 p.1 p.2 refl _ c.copy_from_slice.ensures.after refl _ (c.copy_from_slice-2.ensures.after ∙ c.bits.ensures) in
    c.blocks-2.ensures ∙ blocks_of_head _ _ a.s (a.e + 8) w
