use Prim.Native.Nat.{◌/◌, ◌<◌}
use mathlib.Core.Path.{◌≡◌, refl, sym, ap, ◌∙◌}
use mathlib.Core.Bool.{not}
use native.Mathlib.Omega.{arith}
use lib.ListN.{length}
use Rattle.std.proofs.lemmas.Result.{err_from_is_err_and}
use Rattle.laws.proofs.Laws.{any_zero, any_more}
use Rattle.uf2_block.specs.Block.{field_at}
use Rattle.uf2_known.specs.Judged.{rooms_at}
use Rattle.file_check.specs.Check.{is_valid}
use Rattle.file_checking.proofs.Laws.{next_kept, knows_first, knows_next, found_is, holds_after, first_told, none_told}
use Rattle.file_checking.proofs.each_piece.Goals as goal

pub loop-i-init : goal.loop-i-init
loop-i-init c = (any_zero _, c.requires.opened.held, knows_first _ _ _ c.rooms_for-rooms.ensures.value c.rooms_for-rooms.ensures.low)

pub returns-in_err-check_piece-clause-value : goal.returns-in_err-check_piece-clause-value
returns-in_err-check_piece-clause-value c =
    let at = c.loop-i in
    let h : c.loop-i.i < length c.args.file.now / 512 = omega (arith, c.loop-i-test.true) in
    let k = c.next-kept.ensures in
    let kept = next_kept _ _ _ at.invariant.2 k.value ∙ ap (rooms_at _ _) (c.field-family.ensures ∙ ap (λ a. field_at a 28) c.bytes.ensures) in
    let e = found_is _ _ _ c.requires.opened at.i _ h at.invariant.0 at.invariant.1 _ kept (k.low at.invariant.2.low) c.requires.first c.in_err-check_piece.ensures.value in
    let p = err_from_is_err_and c.from_residual.result c.from_residual.ensures.1 in
    rw (p.1, p.2) (first_told _ _ _ at.i h at.invariant.0 e refl)

pub loop-i-preserved : goal.loop-i-preserved
loop-i-preserved c =
    let at = c.loop-i in
    let h : c.loop-i.i < length c.args.file.now / 512 = omega (arith, c.loop-i-test.true) in
    let k = c.next-kept.ensures in
    let kept = next_kept _ _ _ at.invariant.2 k.value ∙ ap (rooms_at _ _) (c.field-family.ensures ∙ ap (λ a. field_at a 28) c.bytes.ensures) in
    let low = k.low at.invariant.2.low in
    let g = c.in_ok-check_piece.ensures in
    let e = found_is _ _ _ c.requires.opened at.i _ h at.invariant.0 at.invariant.1 _ kept low c.requires.first g.value in (
      any_more _ _ at.invariant.0 (ap (λ x. not (is_valid x)) (sym e)),
      holds_after _ _ _ c.requires.opened at.i _ h at.invariant.0 at.invariant.1 _ kept low c.requires.first g.value refl _ g.left,
      knows_next _ _ _ at.invariant.2 k.value k.low,
    )

pub returns : goal.returns
returns c =
    let at = c.loop-i in
    let e : at.i ≡ length c.args.file.now / 512 = omega arith in
    record { value = none_told _ _ _ (rw e at at.invariant.0); held = rw e at at.invariant.1 }
