use Prim.Native.Nat.{◌+◌}
use mathlib.Core.Path.{◌≡◌, refl, ap, ◌∙◌}
use native.Mathlib.Omega.{arith}
use Rattle.laws.specs.Over.{over}
use Rattle.laws.specs.Rows.{rows}
use Rattle.settings_store.specs.Written.{row_at}
use Rattle.settings_store.proofs.write.Rows.{rows_first, rows_long, rows_next}
use Rattle.settings_store.proofs.write.write_rows.Goals as goal

pub loop-k-init : goal.loop-k-init
loop-k-init c = (omega arith, refl, rows_first _ _ (omega arith))

pub loop-k-preserved : goal.loop-k-preserved
loop-k-preserved c =
    let start = c in
    let a = start.args in
    let l = c.loop-k in
    let one = rows_next a.out.now a.table l.out _ _ l.k (omega arith) l.invariant.2 refl c.pack-row.ensures c.copy_from_slice.ensures.after in
    (omega arith, rows_long a.out.now a.table _ (l.k + 1) (omega arith) one, one)

pub returns : goal.returns
returns c =
    let a = c.args in
    let l = c.loop-k in
    let e : l.k ≡ a.n = omega arith in
    l.invariant.2 ∙ ap (λ k. over a.out.now 2 (rows (row_at a.table) k)) e
