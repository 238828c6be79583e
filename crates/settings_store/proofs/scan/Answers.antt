use mathlib.Core.Path.{◌≡◌, sym, ap, ◌∙◌}
use native.Mathlib.Omega.{arith}
use Rattle.laws.proofs.Laws.{any_zero, any_more, any_hit}
use Rattle.partitions.proofs.Tables.{filled_none, filled_more, filled_table}
use Rattle.std.specs.Prelude.{Some}
use Rattle.settings_store.specs.Store.{entry_of, stray_at}
use Rattle.settings_store.proofs.Parts.{entry_at, stray_at_lem}
use Rattle.settings_store.proofs.scan.Goals as goal

pub loop-k-init : goal.loop-k-init
loop-k-init c = (omega arith, filled_none _ c.blank-e.ensures, any_zero _)

pub returns-then-stray : goal.returns-then-stray
returns-then-stray c =
    let a = c.args in
    let l = c.loop-k in
    rw (any_hit (stray_at a.s.now a.version) a.n l.k (omega arith) (sym (stray_at_lem a.s.now a.version l.k c.stray.ensures) ∙ c.if-stray.true))

pub loop-k-preserved : goal.loop-k-preserved
loop-k-preserved c =
    let a = c.args in
    let l = c.loop-k in (
      omega arith,
      filled_more (entry_of a.s.now) l.k l.table (omega arith) l.invariant.1 (entry_at a.s.now l.k c.unpack-e.ensures),
      any_more (stray_at a.s.now a.version) l.k l.invariant.2 (sym (stray_at_lem a.s.now a.version l.k c.stray.ensures) ∙ c.if-stray.false),
    )

pub returns : goal.returns
returns c =
    let a = c.args in
    let l = c.loop-k in
    let e : l.k ≡ a.n = omega arith in
    rw (← e, l.invariant.2) (ap Some (filled_table (entry_of a.s.now) l.k l.table l.invariant.1))
