use Prim.Native.Nat.{◌+◌}
use mathlib.Core.Path.{refl, ◌∙◌}
use native.Mathlib.Omega.{arith}
use Rattle.settings_layout.proofs.Written.{row_is, rows_first, rows_next, rows_long, rows_whole}
use Rattle.settings_layout.proofs.write_table.Goals as goal

pub loop-k-init : goal.loop-k-init
loop-k-init c = (omega arith, refl, rows_first _ _)

pub loop-k-preserved : goal.loop-k-preserved
loop-k-preserved c =
    let start = c in
    let a = start.args in
    let l = c.loop-k in
    let row = row_is a.table l.bytes l.k (l.invariant.1 ∙ start.requires) (omega arith) c.write_entry.ensures in
    let one = rows_next a.table a.bytes.now l.bytes _ l.k start.requires (omega arith) l.invariant.2 row in
    (omega arith, rows_long a.table a.bytes.now _ (l.k + 1) start.requires (omega arith) one, one)

pub returns : goal.returns
returns c =
    let start = c in
    let l = c.loop-k in
    rows_whole start.args.table start.args.bytes.now l.bytes l.k start.requires (omega arith) l.invariant.2
