use mathlib.Core.Path.{◌≡◌, ap, ◌∙◌}
use native.Mathlib.Omega.{arith}
use Rattle.partitions.proofs.Tables.{filled_none, filled_more}
use Rattle.partitions.specs.Settings.{arch_from as of_flag}
use Rattle.settings_layout.specs.Layout.{used_of, settings_of}
use Rattle.settings_layout.proofs.Table.{arch_on, entry_part, used_whole, settings_read}
use borrow.Author.Rules.{rules}
use Rattle.settings_layout.proofs.read_settings.Goals as goal

pub loop-k-init : goal.loop-k-init
loop-k-init c =
    let used = c.used-n in
    (search rules, used.ensures.low, used.ensures.value ∙ ap used_of c.count-count.ensures, filled_none _ c.blank-blank.ensures)

pub slice_bounds-entry-end : goal.slice_bounds-entry-end
slice_bounds-entry-end c = let whole = used_whole c.args.bytes.now c.loop-k.invariant.2 (omega arith) in omega arith

pub loop-k-preserved : goal.loop-k-preserved
loop-k-preserved c =
    let at = c.loop-k in
    (search rules, at.invariant.1, at.invariant.2, filled_more _ at.k at.table (omega arith) at.invariant.3 (entry_part _ at.k c.entry.ensures))

pub returns : goal.returns
unfolding settings_of
returns c =
    let at = c.loop-k in
    let made = c in
    let arch = made in
    let e : at.k ≡ made.used-n.result = omega arith in
    settings_read _ at.table at.invariant.2 (rw e at at.invariant.3)
    (simp (
      made.from-current.ensures ∙ ap of_flag made.on.ensures ∙ arch_on _,
      arch.on-arm.ensures,
      arch.on-riscv.ensures,
      made.on-auto_switch.ensures,
      made.on-absolute.ensures,
      made.count-count.ensures,
    ))
