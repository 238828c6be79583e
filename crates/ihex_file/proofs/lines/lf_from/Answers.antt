use native.Mathlib.Omega.{arith}
use Rattle.ihex_file.proofs.lines.Ends.{len_on, ends_lf, ends_text}
use Rattle.ihex_file.proofs.lines.lf_from.Goals as goal

pub returns-then-text-i-eq-LF-clause-found : goal.returns-then-text-i-eq-LF-clause-found
returns-then-text-i-eq-LF-clause-found c h =
    ends_lf c.args.text.now c.args.at c.loop-i.i c.loop-i.invariant (omega arith) (omega arith) c.if-text-i-eq-LF.true

pub loop-i-preserved : goal.loop-i-preserved
loop-i-preserved c = omega (arith, c.loop-i.invariant, len_on c.args.text.now c.loop-i.i (omega arith) c.if-text-i-eq-LF.false)

pub returns-clause-none : goal.returns-clause-none
returns-clause-none c h = ends_text c.args.text.now c.args.at c.loop-i.i c.loop-i.invariant (omega arith) (λ k. omega arith)
