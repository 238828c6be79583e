use native.Mathlib.Omega.{arith}
use Rattle.uf2_checks.proofs.Laws.{window_low}
use Rattle.uf2_checks.proofs.block_kind.in_window.Goals as goal

pub overflow_add-result : goal.overflow_add-result
overflow_add-result c = omega (arith, c.extent-len.ensures, c.base-from.ensures, window_low c.args.kind)

pub returns : goal.returns
returns c = simp (c.is_lent-here.ensures, c.extent-len.ensures, c.base-from.ensures)
