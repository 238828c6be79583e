use mathlib.Core.Path.{refl, sym, ap, ◌∙◌}
use native.Mathlib.Omega.{arith}
use Rattle.laws.specs.Numbered.{numbered}
use Rattle.uf2_make.specs.Uf2check.{make_number}
use Rattle.uf2_make.proofs.checks.Checks.{start_low, image_bad, start_bad, past, short, passes}
use Rattle.uf2_make.proofs.checks.check.Goals as goal

pub returns-then-bad_image : goal.returns-then-bad_image
returns-then-bad_image c = ap (numbered make_number) (image_bad _ _ _ (sym c.bad_image.ensures ∙ c.if-bad_image.true))

pub returns-then-bad_start : goal.returns-then-bad_start
returns-then-bad_start c = ap (numbered make_number) (start_bad _ _ _ (sym c.bad_image.ensures ∙ c.if-bad_image.false) (sym c.bad_start.ensures ∙ c.if-bad_start.true))

pub overflow_sub-first : goal.overflow_sub-first
overflow_sub-first c = omega (arith, start_low c.args.start (sym c.bad_start.ensures ∙ c.if-bad_start.false))

pub returns-then-first-image_len : goal.returns-then-first-image_len
returns-then-first-image_len c = ap (numbered make_number) (past _ _ _ (sym c.bad_image.ensures ∙ c.if-bad_image.false) (sym c.bad_start.ensures ∙ c.if-bad_start.false) (omega (arith, start_low c.args.start (sym c.bad_start.ensures ∙ c.if-bad_start.false))))

pub returns-then-output_len-pages : goal.returns-then-output_len-pages
returns-then-output_len-pages c = ap (numbered make_number) (short _ _ _ (sym c.bad_image.ensures ∙ c.if-bad_image.false) (sym c.bad_start.ensures ∙ c.if-bad_start.false) (omega (arith, start_low c.args.start (sym c.bad_start.ensures ∙ c.if-bad_start.false))) (omega arith))

pub returns : goal.returns
returns c = ap (numbered make_number) (passes _ _ _ (sym c.bad_image.ensures ∙ c.if-bad_image.false) (sym c.bad_start.ensures ∙ c.if-bad_start.false) (omega (arith, start_low c.args.start (sym c.bad_start.ensures ∙ c.if-bad_start.false))) (omega arith) refl)
