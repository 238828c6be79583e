use mathlib.Core.Path.{◌≡◌, ap, ◌∙◌}
use native.Mathlib.Omega.{arith}
use Rattle.store_entry.specs.Chunks.{chunks_of}
use Rattle.store_entry.proofs.chunk_bits.ReadBack.{read_chunks, joined_4, joined_5}
use Rattle.store_entry.proofs.chunk_bits.ReadBack.{row, row_all}
use Rattle.store_entry.proofs.chunk_bits.chunks_in.Goals as goal

pub regroup-requires : goal.regroup-requires
regroup-requires c = (joined_5 c.join5-a.ensures, joined_4 c.join4-b.ensures, joined_4 c.join4-c.ensures, joined_4 c.join4-d.ensures, joined_4 c.join4-e.ensures)

pub returns : goal.returns
unfolding row
returns c =
    let start = c in
    let s = start.args.s.now in
    let whole : row 22 0 s ≡ s = row_all 22 s start.requires in
    c.regroup.ensures
    ∙ read_chunks _ _ _ _ _ _ (joined_5 c.join5-a.ensures) (joined_4 c.join4-b.ensures) (joined_4 c.join4-c.ensures) (joined_4 c.join4-d.ensures) (joined_4 c.join4-e.ensures) (omega (arith, c.type_inv.s 21))
    _ _ _ _ _ _ _ _ _ _ _ _ _ _ _ _ _ _ _ _ _ c.join5-a.ensures c.join4-b.ensures c.join4-c.ensures c.join4-d.ensures c.join4-e.ensures
    ∙ ap chunks_of whole
