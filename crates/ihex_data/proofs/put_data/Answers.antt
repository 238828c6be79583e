use Rattle.ihex_data.proofs.Tallied.{is_cut, is_whole, put_whole, put_cut_by, second_fits}
use lib.Seq.{length-take-le}
use lib.ListN.{length-take}
use native.Mathlib.Omega.{arith}
use Prim.Native.Nat.{◌/◌, ◌%◌, ◌-◌}
use mathlib.Core.Path.{refl, sym}
use Rattle.ihex_data.proofs.put_data.Goals as goal

pub slice_bounds-put_piece-end : goal.slice_bounds-put_piece-end
slice_bounds-put_piece-end c = sym (length-take-le _ c.args.bytes.now (omega (arith, is_cut c.args.address c.crosses.ensures c.if-crosses.true)))

pub put_piece-next-requires : goal.put_piece-next-requires
put_piece-next-requires c =
    let a = c.args in
    (omega arith, omega (arith, length-take (65536 - a.address % 65536) a.bytes.now))

pub slice_bounds-put_piece-count : goal.slice_bounds-put_piece-count
slice_bounds-put_piece-count c = omega (arith, is_cut c.args.address c.crosses.ensures c.if-crosses.true)

pub slice_bounds-put_piece-start : goal.slice_bounds-put_piece-start
slice_bounds-put_piece-start c = omega (arith, is_cut c.args.address c.crosses.ensures c.if-crosses.true)

pub put_piece-requires : goal.put_piece-requires
put_piece-requires c =
    let a = c.args in
    let f = second_fits a.tally (a.address / 65536) a.bytes.now (65536 - a.address % 65536) (omega arith) (omega arith) c.put_piece-next.ensures.value in
    f

pub returns-then-crosses : goal.returns-then-crosses
returns-then-crosses c =
    let a = c.args in
    let both = put_cut_by a.out.now a.place.kind a.place.at a.tally a.address a.bytes.now _ (is_cut c.args.address c.crosses.ensures c.if-crosses.true) refl c.put_piece-next.ensures.value c.put_piece-next.ensures.lines c.put_piece.ensures.value c.put_piece.ensures.lines in
    record { value = both.0; lines = both.1 }

pub returns : goal.returns
returns c =
    let a = c.args in
    let both = put_whole a.out.now a.place.kind a.place.at a.tally a.address a.bytes.now (is_whole a.address c.crosses.ensures c.if-crosses.false) c.put_piece-2.ensures.value c.put_piece-2.ensures.lines in
    record { value = both.0; lines = both.1 }
