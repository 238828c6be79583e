use Prim.Native.Nat.{◌<◌}
use mathlib.Core.Path.{◌≡◌, sym, ◌∙◌}
use native.Mathlib.Omega.{arith}
use Rattle.laws.proofs.Laws.{any_zero, any_more, any_hit}
use Rattle.placement.specs.Place.{used_count}
use Rattle.placement.proofs.Laws.{ram_named, ram_other}
use Rattle.placement.proofs.ram.ram_family.Goals as goal

pub returns-then-family : goal.returns-then-family
returns-then-family c = ram_named _ _ c.if-family.true

pub loop-i-init : goal.loop-i-init
loop-i-init c = any_zero _

pub returns-then-has_user : goal.returns-then-has_user
returns-then-has_user c =
    let below : c.loop-i.i < used_count c.args.settings.count = omega (arith, c.used_count-n.ensures) in
    sym (any_hit _ _ _ below (sym c.has_user.ensures ∙ c.if-has_user.true)) ∙ ram_other _ _ c.if-family.false

pub loop-i-preserved : goal.loop-i-preserved
loop-i-preserved c = any_more _ _ c.loop-i.invariant (sym c.has_user.ensures ∙ c.if-has_user.false)

pub returns : goal.returns
returns c =
    let last : c.loop-i.i ≡ used_count c.args.settings.count = omega (arith, c.used_count-n.ensures) in
    sym (rw last at c.loop-i.invariant) ∙ ram_other _ _ c.if-family.false
